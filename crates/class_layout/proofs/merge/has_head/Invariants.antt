use Rattle.std.proofs.Common.{◌≡◌, drop}
use Rattle.py_typed.specs.Order.{heads}
use Rattle.class_layout.specs.Merging.{has_first, rows_of}
use Rattle.class_layout.proofs.merge.has_head.Given as goal

abbrev pub invariant-loop-row : goal.invariant-loop-row
invariant-loop-row l =
    has_first (heads (rows_of (drop l.row-index l.rows))) ≡ has_first (heads (rows_of l.rows))
