use Rattle.std.proofs.Common.{◌≡◌, ◌+◌, true, ℕ, length, get_or, drop}
use Rattle.class_layout.specs.Merging.{times, is_below}
use Rattle.class_layout.proofs.merge.add_row.Given as goal

abbrev pub invariant-loop-class : goal.invariant-loop-class
invariant-loop-class l =
    record {
      counted : (c : ℕ) → get_or l.behind c 0 + times c (drop l.class-index l.row) ≡ get_or l.initial.behind c 0 + times c l.row;
      below : is_below (length l.behind) (drop l.class-index l.row) ≡ true;
      long : length l.behind ≡ length l.initial.behind;
    }
