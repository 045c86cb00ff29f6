use Rattle.std.proofs.Common.{◌≡◌, ◌+◌, ℕ, map, get_or, drop}
use Rattle.py_typed.specs.Order.{headless}
use Rattle.class_layout.specs.Merging.{rows_of, times_behind}
use Rattle.class_layout.proofs.merge.count_off.Given as goal

abbrev pub invariant-loop-row : goal.invariant-loop-row
invariant-loop-row l =
    (c : ℕ) → get_or l.behind c 0 + times_behind c (map (headless l.class) (rows_of (drop l.row-index l.rows)))
    ≡ times_behind c (map (headless l.class) (rows_of l.rows)) + times_behind c (rows_of (drop l.row-index l.rows))
