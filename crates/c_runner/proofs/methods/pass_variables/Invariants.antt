use Rattle.std.proofs.Common.{◌≡◌, true, List, ◌∷◌, ◌++◌}
use Rattle.std.specs.Prelude.{map}
use Rattle.c_core.specs.Machine as machine
use Rattle.c_core.specs.Step.{Next, if_passed}
use Rattle.c_runner_deeds.specs.States.{Rest, state_of, seen}
use Rattle.cell_heap.specs.Contents.{word_of, words_refs}
use Rattle.cell_heap.specs.Ours.{AreOurs}
use Rattle.c_runner.proofs.FrameLemmas.{left}
use Rattle.c_runner.proofs.MethodLemmas.{passing}
use Rattle.c_runner.proofs.methods.pass_variables.Given as goal

-- what is left to be passed comes behind the words so far
abbrev pub invariant-loop-i : goal.invariant-loop-i
invariant-loop-i l = record {
  passed :
      (rest : Rest) (go : List machine.Word → Next) →
      if_passed true (state_of rest (seen l.state)) (map (λ v. v.1) l.parameters) (passing (l.object ∷ l.args)) go
      ≡ left (state_of rest (seen l.state)) l.parameters (passing (l.object ∷ l.args)) l.i (λ ws. go (map word_of l.words ++ ws));
  ours : AreOurs l.state.cells (words_refs l.words);
}
