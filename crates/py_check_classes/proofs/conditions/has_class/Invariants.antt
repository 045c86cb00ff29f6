use Rattle.std.proofs.Common.{◌≡◌, drop}
use Rattle.py_typed.specs.Classes.{has_class}
use Rattle.py_check_classes.proofs.conditions.has_class.Given as goal

abbrev pub invariant-loop-other : goal.invariant-loop-other
invariant-loop-other l = has_class l.class (drop l.other-index l.row) ≡ has_class l.class l.row
