use Rattle.std.proofs.Common.{◌≡◌, ℕ, List, map, drop}
use Rattle.std.specs.Map.{lookup}
use Rattle.std.specs.Option.{option_or, option_map}
use Rattle.std.specs.Str.{bytes_eq}
use Rattle.indexmap.specs.IndexMap.{get}
use Rattle.class_layout_members.specs.Views.{definition, member}
use Rattle.class_layout_members.proofs.clash.first_definitions.Given as goal

abbrev pub invariant-loop-member : goal.invariant-loop-member
invariant-loop-member l =
    (q : List ℕ) → option_or (option_map definition (get bytes_eq l.firsts q)) (lookup (bytes_eq q) (map member (drop l.member-index l.members))) ≡ lookup (bytes_eq q) (map member l.members)
