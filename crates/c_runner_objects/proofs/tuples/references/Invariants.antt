use Rattle.std.proofs.Common.{◌≡◌, ◌+◌, ◌≤◌, drop}
use Rattle.std.specs.Prelude.{map}
use Rattle.c_core.specs.Cells.{times}
use Rattle.c_core.specs.Machine.{refs}
use Rattle.cell_heap.specs.Contents.{word_of}
use Rattle.c_runner_objects.proofs.tuples.references.Given as goal

-- those of the words from the place on are still to be counted
abbrev pub invariant-loop-word : goal.invariant-loop-word
invariant-loop-word l = record {
  counted : l.count + times (refs (map word_of (drop l.word-index l.words))) l.serial ≡ times (refs (map word_of l.words)) l.serial;
  few : l.count ≤ l.word-index;
}
