use Rattle.std.proofs.Common.{refl, sym, ap, ◌∙◌, true, Some}
use Rattle.std.specs.Option.{option_copied}
use Rattle.c_core.specs.declared.primitive.Primitive.TheVariants as prim
use Rattle.c_core.specs.Step.{primitive_step, truth_word}
use Rattle.c_runner_deeds.specs.States.{state_of, seen}
use Rattle.cell_heap.specs.Contents.{number_of}
use Rattle.c_runner_deeds.proofs.ExceptionLemmas.{some_map, object_step, occurred_step, matches_step}
use Rattle.c_runner_deeds.proofs.state.State.call_error.Goals as goal

pub returns-in-Some-Var : goal.returns-in-Some-Var
returns-in-Some-Var c =
    λ code rest.
    let s = state_of rest (seen c.args.self.now) in
    ap (λ p. primitive_step true s code c.args.target c.args.args.now (prim.Err p)) c.in-SetObject.is
    ∙ object_step s code c.args.target c.args.args.now c.in-Some-Var.x _ (sym c.in-Some-Var.ensures.value ∙ ap Some c.in-Some-Var.field-0-is) refl
    ∙ c.set_pending.ensures code c.args.target rest

pub returns-then-is_empty : goal.returns-then-is_empty
returns-then-is_empty c =
    λ code rest.
    let s = state_of rest (seen c.args.self.now) in
    ap (λ p. primitive_step true s code c.args.target c.args.args.now (prim.Err p)) c.in-Occurred.is
    ∙ occurred_step s code c.args.target c.args.args.now _ _ (sym c.is_empty.ensures ∙ c.if-is_empty.true) (c.truth.ensures ∙ ap truth_word (c.is_some-is_pending.ensures ∙ some_map number_of c.args.self.now.pending)) (c.answer.ensures rest)

pub returns-in-Some : goal.returns-in-Some
returns-in-Some c =
    λ code rest.
    let s = state_of rest (seen c.args.self.now) in
    ap (λ p. primitive_step true s code c.args.target c.args.args.now (prim.Err p)) c.in-Matches.is
    ∙ matches_step s code c.args.target c.args.args.now c.in-Some.class.now (sym (ap option_copied c.in-Some.is) ∙ c.only_text.ensures)
    ∙ c.match_pending.ensures rest
