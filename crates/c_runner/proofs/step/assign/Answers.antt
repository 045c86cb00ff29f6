use Rattle.c_runner_deeds.proofs.StateLemmas.{assigned}
use Rattle.c_runner_deeds.specs.States.{seen}
use Rattle.std.proofs.Common.{refl, Some}
use Rattle.c_runner_deeds.proofs.OursLemmas.{target_own}
use Rattle.cell_heap.proofs.OursLemmas.{keeps_itself}
use Rattle.c_runner.proofs.OwnLemmas.{literal_plain, plain_words_own}
use Rattle.c_runner.proofs.step.assign.Goals as goal

pub returns-in-Some-of_literal : goal.returns-in-Some-of_literal
returns-in-Some-of_literal c =
    λ rest. assigned rest (seen c.args.state.now) _ _ _ _ _ _ c.in-Some.is c.in-Some-of_literal.ensures c.set.ensures

pub invariant_of-state : goal.invariant_of-state
invariant_of-state c = record {
  ours = target_own c.args.state.now c.args.state.now.cells (Some c.args.x) c.in-Some-of_literal.word _ _ (keeps_itself c.args.state.now.cells) refl c.set.ensures
      (plain_words_own c.args.state.now.cells (Some c.in-Some-of_literal.word) (literal_plain c.in-Some.kind c.args.literal (Some c.in-Some-of_literal.word) c.in-Some-of_literal.ensures));
}
