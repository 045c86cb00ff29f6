use Rattle.std.proofs.Common.{◌≡◌, ◌<◌, ℕ, Some, map, length}
use Rattle.py_typed.specs.Classes.{class_entry}
use Rattle.py_typed.specs.Order.{method_of}
use Rattle.class_layout_members.specs.Names.{method_names}
use Rattle.class_layout.specs.Layouts.{functions_in}
use Rattle.class_layout.proofs.layouts.function_tables.Given as goal

abbrev pub invariant-loop : goal.invariant-loop
invariant-loop l =
    record {
      long : l.counter ≡ length l.functions;
      each : (c : ℕ) → c < length l.functions → map Some (functions_in l.functions c) ≡ map (method_of (map class_entry l.classes) c) (method_names (map class_entry l.classes) c);
    }
