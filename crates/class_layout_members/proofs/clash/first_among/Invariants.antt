use Rattle.std.proofs.Common.{◌≡◌, map, drop, find}
use Rattle.std.specs.Str.{bytes_eq}
use Rattle.indexmap.specs.IndexSet.{contains}
use Rattle.class_layout_members.specs.Views.{member}
use Rattle.class_layout_members.proofs.clash.first_among.Given as goal

abbrev pub invariant-loop-member : goal.invariant-loop-member
invariant-loop-member l =
    find (λ p. contains bytes_eq l.fn.names p.0) (map member (drop l.member-index l.members)) ≡ find (λ p. contains bytes_eq l.fn.names p.0) (map member l.members)
