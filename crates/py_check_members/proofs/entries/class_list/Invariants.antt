use Rattle.std.proofs.Common.{◌≡◌, ◌++◌, length, map, drop}
use Rattle.std.specs.List.{flat_map}
use Rattle.py_typed.specs.Classes.{class_entry}
use Rattle.py_check_names.specs.Walked.{trees}
use Rattle.py_check_classes.specs.Names.{class_in}
use Rattle.py_check_members.specs.Members.{entries_from, class_entries}
use Rattle.py_check_members.specs.Views.{own_of}
use Rattle.py_check_members.proofs.entries.class_list.Given as goal

abbrev pub invariant-loop-s : goal.invariant-loop-s
invariant-loop-s l =
    map class_entry l.list ++ entries_from l.headers (map own_of l.members) (length (map class_entry l.list)) (flat_map class_in (trees (drop l.s-index l.definitions)))
    ≡ class_entries l.headers (trees l.definitions) (map own_of l.members)
