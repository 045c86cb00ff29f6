use Rattle.std.proofs.Common.{rules, ◌≡◌, ◌+◌, ◌∙◌, drop, sym, ap}
use Rattle.std.specs.Str.{bytes_eq}
use Rattle.class_layout_members.proofs.RowLemmas.{from_place}
use Rattle.indexmap.specs.IndexSet.{insert_all}
use Rattle.class_layout_members.proofs.RowLemmas.{put_next}
use Rattle.class_layout_members.proofs.names.add_all.Goals as goal

pub loop-name-preserved : goal.loop-name-preserved
loop-name-preserved c =
    let copied : c.in_ok-clone.field-0 ≡ c.name-item.result = search rules in
    let here = from_place c.args.more.now c.loop-name.name-index c.name-item.result c.loop-name-test.true c.name-item.is in
    put_next c.loop-name.names.keys _ c.name-item.result _ (drop (c.loop-name.name-index + 1) c.args.more.now) _ copied c.in_ok-insert.ensures.keys
    (sym (ap (insert_all bytes_eq c.loop-name.names.keys) here) ∙ c.loop-name.invariant)
