use Rattle.std.proofs.Common.{◌≡◌, map, drop}
use Rattle.std.specs.List.{list_all}
use Rattle.py_check_values.specs.Aims.{aim_seen}
use Rattle.py_check_targets.specs.Targets.{is_placed}
use Rattle.py_check_assignments.proofs.assignments.all_placed.Given as goal

abbrev pub invariant-loop-a : goal.invariant-loop-a
invariant-loop-a l = list_all is_placed (map aim_seen (drop l.a-index l.aims)) ≡ list_all is_placed (map aim_seen l.aims)
