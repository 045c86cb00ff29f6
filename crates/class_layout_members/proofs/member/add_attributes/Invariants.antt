use Rattle.std.proofs.Common.{◌≡◌, ◌++◌, map, drop}
use Rattle.py_typed.specs.Classes.{with_sort}
use Rattle.class_layout_members.specs.Views.{member, of_type}
use Rattle.class_layout_members.proofs.member.add_attributes.Given as goal

abbrev pub invariant-loop-name : goal.invariant-loop-name
invariant-loop-name l =
    map member l.members ++ map of_type (map with_sort (drop l.name-index l.attributes)) ≡ map member l.fn.members ++ map of_type (map with_sort l.attributes)
