-- What declared classes stand for.
use Rattle.std.specs.Prelude.{map}
use Rattle.py_typed.specs.declared.classes.Classes.{Classes}
use Rattle.py_typed.specs.Classes.{ClassTable, class_entry, signature}

abbrev pub class_table : Classes → ClassTable
class_table t = record { classes = map class_entry t.list; signatures = map signature t.sigs }
