use Rattle.std.proofs.Common.{◌≡◌, map, drop}
use Rattle.py_typed.specs.Classes.{class_entry}
use Rattle.py_check_values.specs.Aims.{aim_seen}
use Rattle.py_check_values.specs.Assignments.{lacking_fault}
use Rattle.py_check_values.proofs.assignments.are_declared.Given as goal

abbrev pub invariant-loop-aim : goal.invariant-loop-aim
invariant-loop-aim l =
    (lacking_fault (map class_entry l.classes.list) (map aim_seen (drop l.aim-index l.aims)) ≡ lacking_fault (map class_entry l.classes.list) (map aim_seen l.aims))
    × (l.faults ≡ l.fn.faults)
