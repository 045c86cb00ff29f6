use Rattle.std.proofs.Common.{rules, ◌≡◌, ◌+◌, ◌∙◌, drop, sym, ap}
use Rattle.std.specs.Str.{bytes_eq}
use Rattle.class_layout_members.proofs.RowLemmas.{from_place}
use Rattle.indexmap.specs.IndexSet.{insert_all}
use Rattle.class_layout_members.specs.Names.{names_in}
use Rattle.class_layout_members.proofs.RowLemmas.{put_next}
use Rattle.class_layout_members.proofs.names.add_names.Goals as goal

pub loop-name-preserved : goal.loop-name-preserved
loop-name-preserved g c =
    let copied : c.in_ok-clone.field-0 ≡ c.loop-name-item.result.0 = search rules in
    let here = from_place c.args.row.now c.loop-name.name-index c.loop-name-item.result c.loop-name-test.true c.loop-name-item.is in
    put_next c.loop-name.names.keys _ c.loop-name-item.result.0 _ (names_in (drop (c.loop-name.name-index + 1) c.args.row.now)) _ copied c.in_ok-insert.ensures.keys
    (sym (ap (λ l. insert_all bytes_eq c.loop-name.names.keys (names_in l)) here) ∙ c.loop-name.invariant)
