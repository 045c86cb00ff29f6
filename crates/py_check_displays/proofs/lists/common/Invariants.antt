use Rattle.std.proofs.Common.{◌≡◌, Some, map, drop}
use Rattle.py_typed.specs.Sorts.{sort}
use Rattle.py_typed.specs.Classes.{class_entry}
use Rattle.py_typed.specs.Expressions.{typed_expr}
use Rattle.py_check_displays.specs.Displays as rule_of
use Rattle.py_check_displays.proofs.lists.common.Given as goal

abbrev pub invariant-loop-e : goal.invariant-loop-e
invariant-loop-e l =
    rule_of.common (map class_entry l.classes.list) (Some (sort l.t)) (map typed_expr (drop l.e-index l.es))
    ≡ rule_of.common (map class_entry l.classes.list) (Some (sort l.first)) (map typed_expr l.es)
