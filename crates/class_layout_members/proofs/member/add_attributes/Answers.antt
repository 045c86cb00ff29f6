use Rattle.std.proofs.Common.{◌+◌, ◌∙◌, ◌++◌, map, drop, sym, ap, refl}
use Rattle.class_layout_members.proofs.RowLemmas.{from_place}
use Rattle.py_typed.specs.Classes.{with_sort}
use Rattle.class_layout_members.specs.Views.{member, of_type}
use Rattle.class_layout_members.proofs.FirstLemmas.{row_next}
use Rattle.class_layout_members.proofs.member.add_attributes.Goals as goal

pub loop-name-preserved : goal.loop-name-preserved
loop-name-preserved c =
    let i = c.loop-name.name-index in
    let p = c.loop-name-item.result in
    let here = from_place c.args.attributes.now i p c.loop-name-test.true c.loop-name-item.is in
    row_next member c.loop-name.members c.push.new.self _ (of_type (with_sort p)) (map of_type (map with_sort (drop (i + 1) c.args.attributes.now))) _ c.in_ok-push.ensures.ok refl
    (sym (ap (λ l. map member c.loop-name.members ++ map of_type (map with_sort l)) here) ∙ c.loop-name.invariant)
