use Rattle.std.proofs.Common.{◌≡◌, true, List, [], length}
use Rattle.std.specs.Prelude.{map}
use Rattle.c_core.specs.declared.code.Code.{Code}
use Rattle.c_core.specs.Arguments.{Argument}
use Rattle.c_core.specs.Ledgers.{Ledger}
use Rattle.c_core.specs.Step.{Next, if_arguments}
use Rattle.c_runner_deeds.specs.States.{Rest, state_of, seen}
use Rattle.c_runner_objects.specs.Tuples.{pack_parameters, AreObjects, AreOwned}
use Rattle.cell_heap.specs.Contents.{word_of, words_refs}
use Rattle.cell_heap.specs.Ours.{AreOurs}
use Rattle.c_runner_objects.proofs.TupleLemmas.{left}
use Rattle.c_runner_objects.proofs.tuples.stolen_objects.Given as goal

-- what is left to be packed comes behind the words so far
abbrev pub invariant-loop-argument : goal.invariant-loop-argument
invariant-loop-argument l = record {
  stolen : (rest : Rest) (code : Code) (go : List Argument → Ledger → Next) →
      if_arguments true (state_of rest (seen l.state)) code pack_parameters l.args [] l.state.top.ledger go
      ≡ left (state_of rest (seen l.state)) code l.args go l.argument-index (map word_of l.words);
  objects : AreObjects (seen l.state).cells (map word_of l.words);
  ours : AreOurs l.state.cells (words_refs l.words);
  owned : AreOwned (map word_of l.words) l.state.top.ledger;
  counted : length l.words ≡ l.argument-index;
}
