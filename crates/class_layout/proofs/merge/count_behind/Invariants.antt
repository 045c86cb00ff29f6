use Rattle.std.proofs.Common.{◌≡◌, ◌+◌, true, ℕ, length, get_or, drop}
use Rattle.class_layout.specs.Merging.{rows_of, times_behind, are_below}
use Rattle.class_layout.proofs.merge.count_behind.Given as goal

abbrev pub invariant-loop-row : goal.invariant-loop-row
invariant-loop-row l =
    record {
      counted : (c : ℕ) → get_or l.behind c 0 + times_behind c (rows_of (drop l.row-index l.rows)) ≡ times_behind c (rows_of l.rows);
      below : are_below l.count (rows_of (drop l.row-index l.rows)) ≡ true;
      long : length l.behind ≡ l.count;
    }
