use Rattle.std.proofs.Common.{◌≡◌, find, drop}
use Rattle.py_typed.specs.Order.{is_free, heads}
use Rattle.class_layout.specs.Merging.{rows_of}
use Rattle.class_layout.proofs.merge.free_head.Given as goal

abbrev pub invariant-loop-row : goal.invariant-loop-row
invariant-loop-row l =
    find (is_free (rows_of l.rows)) (heads (rows_of (drop l.row-index l.rows))) ≡ find (is_free (rows_of l.rows)) (heads (rows_of l.rows))
