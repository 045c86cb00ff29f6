use Rattle.std.proofs.Common.{◌≡◌, map, drop}
use Rattle.py_typed.specs.Sorts.{sort}
use Rattle.py_typed.specs.Classes.{class_entry}
use Rattle.py_check_targets.specs.Targets.{unfit_fault}
use Rattle.py_check_targets.proofs.several.fit_each.Given as goal

abbrev pub invariant-loop-i : goal.invariant-loop-i
invariant-loop-i l =
    (unfit_fault (map class_entry l.classes.list) (map sort (drop l.i l.types)) (map sort (drop l.i l.parts)) ≡ unfit_fault (map class_entry l.classes.list) (map sort l.types) (map sort l.parts))
    × (l.faults ≡ l.fn.faults)
