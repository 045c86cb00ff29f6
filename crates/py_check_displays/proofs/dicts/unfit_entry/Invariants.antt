use Rattle.std.proofs.Common.{◌≡◌, map, drop}
use Rattle.py_typed.specs.Classes.{class_entry}
use Rattle.py_typed.specs.Expressions.{typed_entry}
use Rattle.py_check_displays.specs.Dicts as rule_of
use Rattle.py_check_displays.specs.Entries.{entry_types}
use Rattle.py_check_displays.proofs.dicts.unfit_entry.Given as goal

abbrev pub invariant-loop-i : goal.invariant-loop-i
invariant-loop-i l =
    rule_of.unfit_entry (map class_entry l.classes.list) (entry_types l.types) l.i (map typed_entry (drop l.i l.es))
    ≡ rule_of.unfit_entry (map class_entry l.classes.list) (entry_types l.types) 0 (map typed_entry l.es)
