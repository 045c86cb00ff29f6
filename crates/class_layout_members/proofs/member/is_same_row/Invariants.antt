use Rattle.std.proofs.Common.{◌≡◌, ◌≤◌, map, drop, length}
use Rattle.py_typed.specs.Sorts.{sort, sorts_of}
use Rattle.py_typed.specs.Fits as fit
use Rattle.class_layout_members.proofs.member.is_same_row.Given as goal

abbrev pub invariant-loop-i : goal.invariant-loop-i
invariant-loop-i l =
    record {
      kept : fit.are_same_types (sorts_of (map sort l.ss)) (sorts_of (map sort l.ts)) ≡ fit.are_same_types (sorts_of (map sort (drop l.i l.ss))) (sorts_of (map sort (drop l.i l.ts)));
      within : l.i ≤ length l.ts;
    }
