use Rattle.std.proofs.Common.{◌≡◌, ◌≤◌, length, map, drop}
use Rattle.py_typed.specs.Classes.{class_entry}
use Rattle.py_typed.specs.Sorts.{sort, sorts_of}
use Rattle.py_typed.specs.Fits as fit
use Rattle.py_typed.proofs.fitting.+also.Given as goal

abbrev pub invariant-are_also-loop-i : goal.invariant-are_also-loop-i
invariant-are_also-loop-i l =
    record {
      kept : fit.all_same (map class_entry l.classes) (sorts_of (map sort l.ss)) (sorts_of (map sort l.ts)) ≡ fit.all_same (map class_entry l.classes) (sorts_of (map sort (drop l.i l.ss))) (sorts_of (map sort (drop l.i l.ts)));
      within : l.i ≤ length l.ss;
    }
