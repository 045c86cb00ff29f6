use Rattle.std.proofs.Common.{◌≡◌, [], map, drop}
use Rattle.py_typed.specs.Sorts.{sort}
use Rattle.py_typed.specs.Classes.{class_entry}
use Rattle.py_check_values.specs.Aims.{aim_seen}
use Rattle.py_check_targets.specs.Targets.{parts_fault}
use Rattle.py_check_targets.specs.Views.{part_seen}
use Rattle.py_check_targets.proofs.several.fit_parts.Given as goal

abbrev pub invariant-loop-i : goal.invariant-loop-i
invariant-loop-i l =
    (parts_fault (map class_entry l.classes.list) (map part_seen l.seen.items) (map aim_seen (drop l.i l.aims)) (map sort (drop l.i l.parts)) ≡ parts_fault (map class_entry l.classes.list) [] (map aim_seen l.aims) (map sort l.parts))
    × (l.faults ≡ l.fn.faults)
