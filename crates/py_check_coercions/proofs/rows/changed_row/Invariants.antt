use Rattle.std.proofs.Common.{◌≡◌, ◌++◌, length, map, reverse}
use Rattle.py_typed.specs.Expressions.{typed_expr}
use Rattle.py_check_context.specs.Context.{row}
use Rattle.py_check_coercions.specs.Rows as rule_of
use Rattle.py_check_coercions.proofs.rows.changed_row.Given as goal

abbrev pub invariant-loop-e : goal.invariant-loop-e
invariant-loop-e l =
    rule_of.changed_row (row l.asked) 0 (map typed_expr l.fn.es)
    ≡ rule_of.changed_row (row l.asked) 0 (map typed_expr l.rest) ++ reverse (map typed_expr l.back.items)

abbrev pub decreases-loop-e : goal.decreases-loop-e
decreases-loop-e l = length l.rest
