use Rattle.std.proofs.Common.{◌≡◌, drop, find}
use Rattle.py_check_overrides.specs.Overrides.{says_other}
use Rattle.py_check_overrides.specs.Views.{owns}
use Rattle.py_check_overrides.proofs.clash.class_of_clash.Given as goal

abbrev pub invariant-loop-class : goal.invariant-loop-class
invariant-loop-class l = find (says_other (owns l.members) l.row l.name) (drop l.class-index l.row) ≡ find (says_other (owns l.members) l.row l.name) l.row
