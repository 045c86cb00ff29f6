use Rattle.std.proofs.Common.{◌≡◌, ◌++◌, map, drop, take}
use Rattle.py_typed.specs.Order.{headless}
use Rattle.class_layout.specs.Merging.{rows_of}
use Rattle.class_layout.proofs.merge.take.Given as goal

abbrev pub invariant-loop-row : goal.invariant-loop-row
invariant-loop-row l =
    rows_of (take l.row-index l.rows) ++ map (headless l.class) (rows_of (drop l.row-index l.rows)) ≡ map (headless l.class) (rows_of l.initial.rows)
