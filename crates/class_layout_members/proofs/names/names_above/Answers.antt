use Rattle.std.proofs.Common.{◌+◌, ◌∙◌, drop, get_or, sym, ap}
use Rattle.std.specs.Str.{bytes_eq}
use Rattle.class_layout_members.proofs.RowLemmas.{from_number}
use Rattle.indexmap.specs.IndexSet.{insert_all}
use Rattle.std.proofs.Common.{flat_map}
use Rattle.class_layout_members.specs.Tables.{names_at}
use Rattle.class_layout_members.proofs.RowLemmas.{put_row}
use Rattle.class_layout_members.proofs.names.names_above.Goals as goal

pub loop-base-preserved : goal.loop-base-preserved
loop-base-preserved c =
    let i = c.loop-base.base-index in
    let bases = c.args.bases.now in
    let tables = c.args.earlier.now in
    let here = from_number bases i c.loop-base-test.true in
    put_row c.loop-base.names.keys _ c.names_of.result.now (names_at tables (get_or bases i 0)) (flat_map (names_at tables) (drop (i + 1) bases)) _ c.names_of.ensures c.in_ok-add_all.ensures
    (sym (ap (λ l. insert_all bytes_eq c.loop-base.names.keys (flat_map (names_at tables) l)) here) ∙ c.loop-base.invariant)
