use Rattle.std.proofs.Common.{◌≡◌, ◌++◌, drop}
use Rattle.class_layout.specs.Merging.{rows_of}
use Rattle.py_check_classes.proofs.orders.with_bases.Given as goal

abbrev pub invariant-loop-row : goal.invariant-loop-row
invariant-loop-row l = rows_of l.rows.items ++ drop l.row-index l.above ≡ l.above
