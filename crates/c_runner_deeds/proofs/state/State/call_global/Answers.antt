use Rattle.std.proofs.Common.{refl, ap, ◌∙◌, true, length}
use Rattle.std.proofs.lemmas.Option.{slice_get_read}
use Rattle.c_core.specs.declared.primitive.Primitive.TheVariants as prim
use Rattle.c_core.specs.Step.{primitive_step}
use Rattle.c_runner_deeds.specs.States.{state_of, seen}
use Rattle.c_runner_deeds.proofs.GlobalLemmas.{set_step}
use Rattle.c_runner_deeds.proofs.state.State.call_global.Goals as goal

pub returns-in-Some : goal.returns-in-Some
returns-in-Some c =
    λ rest.
    let s = state_of rest (seen c.args.self.now) in
    let step = set_step s c.args.code.now c.args.target c.args.args.now c.in-Some.argument.now _ (slice_get_read c.args.args.now (length c.args.args.now) 1 c.in-Some.argument.now refl c.in-Some.ensures.lookup.3.0 c.in-Some.ensures.lookup.1) refl in
    ap (λ p. primitive_step true s c.args.code.now c.args.target c.args.args.now (prim.Global p)) c.in-Set.is
    ∙ step.1.1 ∙ c.set_global.ensures step.0 c.args.target (c.requires.global ∙ step.1.0) rest
