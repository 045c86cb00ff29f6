use Rattle.std.proofs.Common.{drop}
use Rattle.cell_heap.specs.Contents.{optional_refs}
use Rattle.cell_heap.proofs.ReleaseLemmas.{Leaves}
use Rattle.cell_heap.proofs.release.lower_attributes.Given as goal

-- those from the place on are still to be given up
abbrev pub invariant-loop-attribute : goal.invariant-loop-attribute
invariant-loop-attribute l = Leaves (optional_refs (drop l.attribute-index l.attributes)) l.cells (optional_refs l.attributes) l.fn.cells
