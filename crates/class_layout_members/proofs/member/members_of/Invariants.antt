use Rattle.std.proofs.Common.{◌≡◌, ◌++◌, map, drop}
use Rattle.py_typed.specs.ClassTables.{class_table}
use Rattle.class_layout_members.specs.Clashes.{members_along}
use Rattle.class_layout_members.specs.Views.{member}
use Rattle.class_layout_members.proofs.member.members_of.Given as goal

abbrev pub invariant-loop-class : goal.invariant-loop-class
invariant-loop-class l =
    map member l.members ++ members_along (class_table l.classes) (drop l.class-index l.row) ≡ members_along (class_table l.classes) l.row
