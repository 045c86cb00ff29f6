use Rattle.std.proofs.Common.{◌≡◌, ◌++◌, drop}
use Rattle.py_check_names.specs.Walked.{trees}
use Rattle.py_check_definitions.specs.Owners.{owners_from}
use Rattle.py_check_definitions.proofs.owners.owners_of.Given as goal

abbrev pub invariant-loop-s : goal.invariant-loop-s
invariant-loop-s l =
    l.owners ++ owners_from l.headers l.classes (trees (drop l.s-index l.definitions)) ≡ owners_from l.headers 0 (trees l.definitions)
