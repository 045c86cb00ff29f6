use Rattle.std.proofs.Common.{◌≡◌, drop}
use Rattle.py_check_classes.specs.Headers.{are_traits}
use Rattle.py_check_classes.proofs.conditions.are_traits.Given as goal

abbrev pub invariant-loop-class : goal.invariant-loop-class
invariant-loop-class l = are_traits l.headers (drop l.class-index l.bases) ≡ are_traits l.headers l.bases
