use Rattle.std.proofs.Common.{◌≡◌, ◌+◌, map, drop}
use Rattle.py_typed.specs.Expressions.{typed_expr}
use Rattle.py_check_loops.specs.Loops as rule_of
use Rattle.py_check_loops.proofs.course.no_number.Given as goal

abbrev pub invariant-loop-i : goal.invariant-loop-i
invariant-loop-i l = rule_of.no_number (l.i + 1) (map typed_expr (drop l.i l.es)) ≡ rule_of.no_number 1 (map typed_expr l.es)
