use Rattle.std.proofs.Common.{◌≡◌, ℕ, List, drop}
use Rattle.std.specs.Map.{lookup}
use Rattle.std.specs.Option.{option_or}
use Rattle.std.specs.Str.{bytes_eq}
use Rattle.indexmap.specs.IndexMap.{get}
use Rattle.class_layout_members.proofs.functions.add_functions.Given as goal

abbrev pub invariant-loop-name : goal.invariant-loop-name
invariant-loop-name l =
    (q : List ℕ) → option_or (get bytes_eq l.found q) (lookup (bytes_eq q) (drop l.name-index l.methods)) ≡ option_or (get bytes_eq l.fn.found q) (lookup (bytes_eq q) l.methods)
