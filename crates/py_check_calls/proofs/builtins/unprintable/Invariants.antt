use Rattle.std.proofs.Common.{◌≡◌, ◌+◌, map, drop}
use Rattle.py_typed.specs.Expressions.{typed_expr}
use Rattle.py_check_calls.specs.Builtins as rule_of
use Rattle.py_check_calls.proofs.builtins.unprintable.Given as goal

abbrev pub invariant-loop-i : goal.invariant-loop-i
invariant-loop-i l = rule_of.unprintable (l.i + 1) (map typed_expr (drop l.i l.es)) ≡ rule_of.unprintable 1 (map typed_expr l.es)
