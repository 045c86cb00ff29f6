use Rattle.std.proofs.Common.{◌≡◌, ◌<◌, ℕ, map, length}
use Rattle.py_typed.specs.Classes.{class_entry}
use Rattle.class_layout_members.specs.Names.{attribute_names}
use Rattle.class_layout_members.specs.Tables.{names_at}
use Rattle.class_layout.proofs.layouts.attribute_tables.Given as goal

abbrev pub invariant-loop-class : goal.invariant-loop-class
invariant-loop-class l =
    record {
      long : l.class-index ≡ length l.tables;
      each : (c : ℕ) → c < length l.tables → names_at l.tables c ≡ attribute_names (map class_entry l.classes) c;
    }
