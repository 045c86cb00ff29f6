use Rattle.std.proofs.Common.{◌≡◌, Some, map, drop}
use Rattle.py_typed.specs.Sorts.{sort}
use Rattle.py_typed.specs.Classes.{class_entry}
use Rattle.py_typed.specs.Expressions.{typed_entry}
use Rattle.py_check_displays.specs.Displays.{common}
use Rattle.py_check_displays.specs.Dicts as rule_of
use Rattle.py_check_displays.proofs.dicts.common_value.Given as goal

abbrev pub invariant-loop-e : goal.invariant-loop-e
invariant-loop-e l =
    common (map class_entry l.classes.list) (Some (sort l.t)) (rule_of.values (map typed_entry (drop l.e-index l.es)))
    ≡ common (map class_entry l.classes.list) (Some (sort l.first)) (rule_of.values (map typed_entry l.es))
