use Rattle.std.proofs.Common.{◌≡◌, ℕ, ◌&&◌, nat_lt, length, slice_get}
use Rattle.py_typed.specs.Above as table
use Rattle.py_typed.proofs.class_list.row_of.Given as goal

abbrev pub invariant-loop-d : goal.invariant-loop-d
invariant-loop-d l =
    record {
      even : l.d ≡ length l.row;
      told : (d : ℕ) → table.flag_in (slice_get l.row d) ≡ (nat_lt d l.d && table.told_by_bases l.rows l.bases l.c d);
    }
