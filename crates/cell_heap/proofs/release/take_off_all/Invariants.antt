use Rattle.std.proofs.Common.{◌≡◌, []}
use Rattle.c_core.specs.Cells.{Cells}
use Rattle.cell_heap.specs.Held.{cells_of, leaves, to_take_off, IsLeft}
use Rattle.cell_heap.specs.Marks.{AreAllMarked}
use Rattle.cell_heap.specs.Placed.{Placed}
use Rattle.cell_heap.proofs.release.take_off_all.Given as goal

-- what waits leaves what all of it leaves, and marks are right
abbrev pub invariant-loop-pair : goal.invariant-loop-pair
invariant-loop-pair l = record {
  released : (first : Cells Placed) → IsLeft first (cells_of l.fn.cells.entries) → leaves first [] l.cells ≡ leaves first [] l.fn.cells;
  rest : IsLeft (cells_of l.fn.cells.entries) (cells_of l.cells.entries);
  marked : AreAllMarked l.fn.cells → AreAllMarked l.cells;
}

-- a condemned cell is taken off, and each cell that is condemned meanwhile was there before
abbrev pub decreases-loop-pair : goal.decreases-loop-pair
decreases-loop-pair l = to_take_off l.cells
