use Rattle.std.proofs.Common.{◌≡◌, ◌≤◌, length, map, drop}
use Rattle.py_typed.specs.Sorts.{sort, sorts_of}
use Rattle.py_typed.specs.Fits as fit
use Rattle.py_typed.proofs.fitting.+one.Given as goal

abbrev pub invariant-are_same_types-loop-i : goal.invariant-are_same_types-loop-i
invariant-are_same_types-loop-i l =
    record {
      kept : fit.are_same_types (sorts_of (map sort l.ss)) (sorts_of (map sort l.ts)) ≡ fit.are_same_types (sorts_of (map sort (drop l.i l.ss))) (sorts_of (map sort (drop l.i l.ts)));
      within : l.i ≤ length l.ts;
    }
