use Rattle.std.proofs.Common.{◌≡◌, map, drop}
use Rattle.py_typed.specs.Classes.{class_entry}
use Rattle.py_typed.specs.Expressions.{typed_expr}
use Rattle.py_check_context.specs.Context.{row}
use Rattle.py_check_coercions.specs.Rows as rule_of
use Rattle.py_check_coercions.proofs.rows.unfit.Given as goal

abbrev pub invariant-loop-i : goal.invariant-loop-i
invariant-loop-i l =
    rule_of.unfit (map class_entry l.classes.list) (row l.asked) l.i (map typed_expr (drop l.i l.es))
    ≡ rule_of.unfit (map class_entry l.classes.list) (row l.asked) 0 (map typed_expr l.es)
