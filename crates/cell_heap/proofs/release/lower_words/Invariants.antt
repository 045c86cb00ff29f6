use Rattle.std.proofs.Common.{drop}
use Rattle.cell_heap.specs.Contents.{words_refs}
use Rattle.cell_heap.proofs.ReleaseLemmas.{Leaves}
use Rattle.cell_heap.proofs.release.lower_words.Given as goal

-- those from the place on are still to be given up
abbrev pub invariant-loop-word : goal.invariant-loop-word
invariant-loop-word l = Leaves (words_refs (drop l.word-index l.words)) l.cells (words_refs l.words) l.fn.cells
