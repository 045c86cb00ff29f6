use Rattle.std.proofs.Common.{sym, ◌∙◌, ap, true, []}
use Rattle.c_core.specs.declared.fault.Fault.TheVariants as fault
use Rattle.c_core.specs.declared.primitive.Primitive.TheVariants as prim
use Rattle.c_core.specs.Step.{if_some, applied, primitive_step}
use Rattle.std.specs.Option.{option_map}
use Rattle.c_runner_deeds.specs.Parts.{effect_of}
use Rattle.c_runner_deeds.specs.States.{state_of, seen}
use Rattle.c_runner_deeds.proofs.CallLemmas.{int64_called}
use Rattle.c_runner_deeds.proofs.DeedLemmas.{does_deed, box_called, unbox_called}
use Rattle.c_runner_deeds.proofs.ExceptionLemmas.{follows_for}
use Rattle.c_runner_deeds.proofs.PlainLemmas.{outcome_own}
use Rattle.c_runner_deeds.proofs.state.State.call_int64.Goals as goal

pub returns-in-Box : goal.returns-in-Box
returns-in-Box c =
    does_deed (prim.Int64 c.args.primitive) c.args.target c.args.args.now (seen c.args.self.now) (seen c.perform_deed.new.self) c.perform_deed.result c.box_native-deed.result _
    (λ code rest. ap (λ p. primitive_step true (state_of rest (seen c.args.self.now)) code c.args.target c.args.args.now (prim.Int64 p)) c.in-Box.is ∙ box_called (state_of rest (seen c.args.self.now)) c.args.target code c.args.args.now)
    c.box_native-deed.ensures c.perform_deed.ensures

pub returns-in-Unbox : goal.returns-in-Unbox
returns-in-Unbox c =
    does_deed (prim.Int64 c.args.primitive) c.args.target c.args.args.now (seen c.args.self.now) (seen c.perform_deed-in-Unbox.new.self) c.perform_deed-in-Unbox.result c.unbox_native-deed.result _
    (λ code rest. ap (λ p. primitive_step true (state_of rest (seen c.args.self.now)) code c.args.target c.args.args.now (prim.Int64 p)) c.in-Unbox.is ∙ unbox_called (state_of rest (seen c.args.self.now)) c.args.target code c.args.args.now)
    c.unbox_native-deed.ensures c.perform_deed-in-Unbox.ensures

pub returns-in_default : goal.returns-in_default
returns-in_default c =
    follows_for
    (λ s. if_some true s fault.Kind (option_map effect_of c.int64_outcome-outcome.result) (applied true s c.args.target s.top.ledger []))
    (λ code s. primitive_step true s code c.args.target c.args.args.now (prim.Int64 c.args.primitive))
    (seen c.args.self.now) (seen c.settle.new.self) c.settle.result
    (λ code rest.
    let s = state_of rest (seen c.args.self.now) in
    int64_called rest (seen c.args.self.now) code c.args.target c.args.args.now c.args.primitive c.in_default.not-Str c.in_default.not-Box c.in_default.not-Unbox
    ∙ ap (λ o. if_some true s fault.Kind o (applied true s c.args.target s.top.ledger [])) (sym c.int64_outcome-outcome.ensures))
    c.settle.ensures

pub settle-requires-clause-ours : goal.settle-requires-clause-ours
settle-requires-clause-ours c = outcome_own c.args.self.now.cells c.args.primitive _ c.args.args.now c.int64_outcome-outcome.result c.int64_outcome-outcome.ensures
