use Rattle.std.proofs.Common.{sym, ◌∙◌}
use Rattle.c_runner_deeds.proofs.StateLemmas.{copied}
use Rattle.c_runner_deeds.specs.States.{seen}
use Rattle.std.proofs.Common.{refl, Some}
use Rattle.c_runner_deeds.proofs.OursLemmas.{variable_own, target_own}
use Rattle.cell_heap.proofs.OursLemmas.{keeps_itself}
use Rattle.c_runner.proofs.step.copy.Goals as goal

pub returns : goal.returns
returns c =
    λ rest. copied rest (seen c.args.state.now) c.args.x c.args.y c.in-Some.word.now _ (sym c.in-Some.ensures.value) (sym c.is_there.ensures ∙ c.if-not-is_there.false) c.set.ensures

pub is_there-requires : goal.is_there-requires
is_there-requires c = record { ours = variable_own c.args.state.now c.args.y c.in-Some.word.now c.in-Some.ensures.value }

pub invariant_of-state : goal.invariant_of-state
invariant_of-state c = record {
  ours = target_own c.args.state.now c.args.state.now.cells (Some c.args.x) c.in-Some.word.now _ _ (keeps_itself c.args.state.now.cells) refl c.set.ensures (variable_own c.args.state.now c.args.y c.in-Some.word.now c.in-Some.ensures.value);
}
