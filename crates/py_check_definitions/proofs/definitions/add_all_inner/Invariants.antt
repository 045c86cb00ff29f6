use Rattle.std.proofs.Common.{◌≡◌, ◌++◌, drop}
use Rattle.std.specs.List.{flat_map}
use Rattle.py_check_names.specs.Walked.{trees}
use Rattle.py_check_definitions.specs.Definitions.{inner_said}
use Rattle.py_check_definitions.proofs.definitions.add_all_inner.Given as goal

abbrev pub invariant-loop-s : goal.invariant-loop-s
invariant-loop-s l = l.faults ++ flat_map inner_said (trees (drop l.s-index l.found)) ≡ l.fn.faults ++ flat_map inner_said (trees l.found)
