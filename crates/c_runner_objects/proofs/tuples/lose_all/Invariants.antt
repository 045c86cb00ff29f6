use Rattle.std.proofs.Common.{◌≡◌, drop}
use Rattle.std.specs.Prelude.{map}
use Rattle.c_runner_objects.specs.Tuples.{lost_all}
use Rattle.cell_heap.specs.Contents.{word_of}
use Rattle.c_runner_objects.proofs.tuples.lose_all.Given as goal

-- the words from the place on are still to be lost, and nothing but the ledger changes
abbrev pub invariant-loop-word : goal.invariant-loop-word
invariant-loop-word l = record {
  lost : lost_all (map word_of (drop l.word-index l.words)) l.frame.ledger ≡ lost_all (map word_of l.words) l.initial.frame.ledger;
  kept : l.frame ≡ record l.initial.frame { ledger = l.frame.ledger };
}
