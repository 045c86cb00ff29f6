use Rattle.std.proofs.Common.{drop}
use Rattle.cell_heap.specs.Contents.{pairs_refs}
use Rattle.cell_heap.proofs.ReleaseLemmas.{Leaves}
use Rattle.cell_heap.proofs.release.lower_pairs.Given as goal

-- those from the place on are still to be given up
abbrev pub invariant-loop-pair : goal.invariant-loop-pair
invariant-loop-pair l = Leaves (pairs_refs (drop l.pair-index l.pairs)) l.cells (pairs_refs l.pairs) l.fn.cells
