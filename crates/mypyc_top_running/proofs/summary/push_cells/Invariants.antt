use Rattle.std.proofs.Common.{◌≡◌, ◌++◌, take}
use Rattle.std.specs.List.{flat_map}
use Rattle.mypyc_top_running.specs.Summary.{cell_line}
use Rattle.mypyc_top_running.proofs.summary.push_cells.Given as goal

-- the lines of the cells before the place are there
abbrev pub invariant-loop-cell : goal.invariant-loop-cell
invariant-loop-cell l = l.text.items ≡ l.fn.text.items ++ flat_map cell_line (take l.cell-index l.cell-items)
