use Rattle.std.proofs.Common.{◌≡◌, drop}
use Rattle.py_check_classes.specs.Rows.{differ}
use Rattle.py_check_classes.proofs.conditions.differ.Given as goal

abbrev pub invariant-loop-i : goal.invariant-loop-i
invariant-loop-i l = differ (drop l.i l.bases) ≡ differ l.bases
