use Rattle.std.proofs.Common.{◌≡◌, true, List, ◌++◌, drop}
use Rattle.std.specs.Prelude.{map}
use Rattle.c_core.specs.Machine as machine
use Rattle.c_core.specs.Step.{Next, if_passed}
use Rattle.c_runner_deeds.specs.States.{Rest, state_of, seen}
use Rattle.cell_heap.specs.Contents.{word_of, words_refs}
use Rattle.cell_heap.specs.Ours.{AreOurs}
use Rattle.c_runner.proofs.frames.pass.Given as goal

-- what is left to be passed comes behind the words so far
abbrev pub invariant-loop-i : goal.invariant-loop-i
invariant-loop-i l = record {
  passed :
      (rest : Rest) (go : List machine.Word → Next) →
      if_passed true (state_of rest (seen l.state)) (map (λ v. v.1) l.parameters) l.args go
      ≡ if_passed true (state_of rest (seen l.state)) (map (λ v. v.1) (drop l.i l.parameters)) (drop l.i l.args) (λ ws. go (map word_of l.words ++ ws));
  ours : AreOurs l.state.cells (words_refs l.words);
}
