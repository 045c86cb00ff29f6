use Rattle.std.proofs.Common.{◌≡◌, map, drop}
use Rattle.py_typed.specs.Expressions.{typed_expr}
use Rattle.py_check_context.specs.Context.{row}
use Rattle.py_check_displays.specs.Displays as rule_of
use Rattle.py_check_displays.proofs.tuples.has_bare_none.Given as goal

abbrev pub invariant-loop-i : goal.invariant-loop-i
invariant-loop-i l = rule_of.has_bare_none (row l.asked) l.i (map typed_expr (drop l.i l.es)) ≡ rule_of.has_bare_none (row l.asked) 0 (map typed_expr l.es)
