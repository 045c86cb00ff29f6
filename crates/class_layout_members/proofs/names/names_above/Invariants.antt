use Rattle.std.proofs.Common.{◌≡◌, [], drop, flat_map}
use Rattle.std.specs.Str.{bytes_eq}
use Rattle.indexmap.specs.IndexSet.{insert_all}
use Rattle.class_layout_members.specs.Tables.{names_at}
use Rattle.class_layout_members.proofs.names.names_above.Given as goal

abbrev pub invariant-loop-base : goal.invariant-loop-base
invariant-loop-base l =
    insert_all bytes_eq l.names.keys (flat_map (names_at l.earlier) (drop l.base-index l.bases)) ≡ insert_all bytes_eq [] (flat_map (names_at l.earlier) l.bases)
