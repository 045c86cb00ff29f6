use Rattle.std.proofs.Common.{◌≡◌, ℕ, List, map, drop}
use Rattle.std.specs.Option.{option_or}
use Rattle.std.specs.Str.{bytes_eq}
use Rattle.indexmap.specs.IndexMap.{get}
use Rattle.py_typed.specs.Classes.{class_entry}
use Rattle.py_typed.specs.Order.{method_along}
use Rattle.class_layout_members.proofs.functions.functions_along.Given as goal

abbrev pub invariant-loop-class : goal.invariant-loop-class
invariant-loop-class l =
    (q : List ℕ) → option_or (get bytes_eq l.found q) (method_along (map class_entry l.classes) q (drop l.class-index l.order)) ≡ method_along (map class_entry l.classes) q l.order
