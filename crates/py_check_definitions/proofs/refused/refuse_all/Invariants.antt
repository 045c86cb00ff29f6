use Rattle.std.proofs.Common.{◌≡◌, ◌++◌, map, drop}
use Rattle.py_check_names.specs.Walked.{trees}
use Rattle.py_check_members.specs.Views.{own_of}
use Rattle.py_check_definitions.specs.Refused.{refusals}
use Rattle.py_check_definitions.proofs.refused.refuse_all.Given as goal

abbrev pub invariant-loop-s : goal.invariant-loop-s
invariant-loop-s l =
    l.faults ++ refusals l.headers (map own_of l.members) l.classes (trees (drop l.s-index l.definitions))
    ≡ l.fn.faults ++ refusals l.headers (map own_of l.members) 0 (trees l.definitions)
