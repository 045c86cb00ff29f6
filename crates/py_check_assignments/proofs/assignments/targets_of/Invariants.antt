use Rattle.std.proofs.Common.{◌≡◌, ◌++◌, length, map, reverse}
use Rattle.std.specs.List.{flat_map}
use Rattle.py_typed.specs.Statements.{typed_target}
use Rattle.py_check_values.specs.Aims.{aim_seen}
use Rattle.py_check_targets.specs.Targets.{target_of}
use Rattle.py_check_assignments.proofs.assignments.targets_of.Given as goal

abbrev pub invariant-loop-a : goal.invariant-loop-a
invariant-loop-a l =
    map typed_target l.targets ++ flat_map target_of (map aim_seen (reverse l.rest.items)) ≡ flat_map target_of (map aim_seen l.fn.aims)

abbrev pub decreases-loop-a : goal.decreases-loop-a
decreases-loop-a l = length l.rest.items
