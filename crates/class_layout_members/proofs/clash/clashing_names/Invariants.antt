use Rattle.std.proofs.Common.{◌≡◌, ◌||◌, ◌&&◌, ℕ, List, map, drop}
use Rattle.std.specs.List.{list_any}
use Rattle.std.specs.Str.{bytes_eq}
use Rattle.indexmap.specs.IndexSet.{contains}
use Rattle.class_layout_members.specs.Clashes.{clashes, differs}
use Rattle.class_layout_members.specs.Views.{member}
use Rattle.class_layout_members.proofs.clash.clashing_names.Given as goal

abbrev pub invariant-loop-member : goal.invariant-loop-member
invariant-loop-member l =
    (q : List ℕ) → (contains bytes_eq l.names q || list_any (λ p. bytes_eq q p.0 && differs (map member l.members) p) (map member (drop l.member-index l.members))) ≡ clashes (map member l.members) q
