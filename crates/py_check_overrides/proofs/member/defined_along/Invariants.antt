use Rattle.std.proofs.Common.{◌≡◌, ◌++◌, map, drop}
use Rattle.class_layout_members.specs.Views.{member}
use Rattle.py_check_overrides.specs.Overrides as spec
use Rattle.py_check_overrides.specs.Views.{owns}
use Rattle.py_check_overrides.proofs.member.defined_along.Given as goal

abbrev pub invariant-loop-class : goal.invariant-loop-class
invariant-loop-class l = map member l.all ++ spec.defined_along (owns l.members) (drop l.class-index l.row) ≡ spec.defined_along (owns l.members) l.row
