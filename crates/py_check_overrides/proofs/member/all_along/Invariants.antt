use Rattle.std.proofs.Common.{◌≡◌, ◌++◌, map, drop}
use Rattle.py_check_overrides.specs.Overrides as spec
use Rattle.py_check_overrides.specs.Views.{own, owns}
use Rattle.py_check_overrides.proofs.member.all_along.Given as goal

abbrev pub invariant-loop-class : goal.invariant-loop-class
invariant-loop-class l = map own l.all ++ spec.all_along (owns l.members) (drop l.class-index l.row) ≡ spec.all_along (owns l.members) l.row
