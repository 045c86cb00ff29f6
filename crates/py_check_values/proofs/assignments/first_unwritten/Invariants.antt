use Rattle.std.proofs.Common.{◌≡◌, map, drop}
use Rattle.py_check_values.specs.Aims.{aim_seen}
use Rattle.py_check_values.specs.Assignments.{first_unwritten}
use Rattle.py_check_values.proofs.assignments.first_unwritten.Given as goal

abbrev pub invariant-loop-a : goal.invariant-loop-a
invariant-loop-a l = first_unwritten (map aim_seen (drop l.a-index l.aims)) ≡ first_unwritten (map aim_seen l.aims)
