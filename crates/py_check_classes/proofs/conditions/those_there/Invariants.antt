use Rattle.std.proofs.Common.{◌≡◌, ◌++◌, drop}
use Rattle.py_check_classes.specs.Rows.{those_there}
use Rattle.py_check_classes.proofs.conditions.those_there.Given as goal

abbrev pub invariant-loop-base : goal.invariant-loop-base
invariant-loop-base l = l.bases ++ those_there (drop l.base-index l.named) ≡ those_there l.named
