use Rattle.std.proofs.Common.{◌≡◌, ◌++◌, drop}
use Rattle.std.specs.List.{flat_map}
use Rattle.py_check_names.specs.Walked.{func_trees}
use Rattle.py_check_definitions.specs.Definitions.{inner_definitions_said}
use Rattle.py_check_definitions.proofs.definitions.add_inner_faults.Given as goal

abbrev pub invariant-loop-f : goal.invariant-loop-f
invariant-loop-f l =
    l.faults ++ flat_map inner_definitions_said (func_trees (drop l.f-index l.functions)) ≡ l.fn.faults ++ flat_map inner_definitions_said (func_trees l.functions)
