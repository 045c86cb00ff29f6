-- What an arena ends as, where a `&mut` to the cell of a key is returned. No public clause cites this module.
use Rattle.std.specs.Prelude.{Option}
use Rattle.std.specs.Borrow.{Fml, MutBor}
use Rattle.slot_arena.specs.declared.key.Key.{Key}
use Rattle.slot_arena.specs.Contents.{Contents}
use Rattle.slot_arena.specs.Lends.{LendsValue}
use Rattle.cell_heap.specs.declared.cells.CountedCell.{CountedCell}
use Rattle.cell_heap.specs.contracts.cells.CountedCell.{the_row as cell_row}

-- once the borrow ends, the key has the last cell written through it; where it is not in the map, the arena stays as it is
abbrev pub LendsCell : MutBor (Contents CountedCell) → Key → Option (MutBor CountedCell) → Fml
LendsCell a key r = LendsValue cell_row a key r
