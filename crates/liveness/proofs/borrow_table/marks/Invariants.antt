use Rattle.std.proofs.Common.{◌≡◌, map, take}
use Rattle.liveness.specs.Paths.{is_among}
use Rattle.liveness.proofs.borrow_table.marks.Given as goal

abbrev pub invariant-loop-row : goal.invariant-loop-row
invariant-loop-row l = l.marks.items ≡ map (λ row. is_among row 0) (take l.row-index l.rows)
