use Rattle.std.proofs.Common.{◌+◌, ◌∙◌, ◌||◌, ◌&&◌, map, drop, option_map, sym, ap}
use Rattle.std.specs.List.{list_any}
use Rattle.std.specs.Str.{bytes_eq}
use Rattle.class_layout_members.proofs.RowLemmas.{from_place}
use Rattle.indexmap.specs.IndexMap.{get}
use Rattle.indexmap.specs.IndexSet.{contains}
use Rattle.class_layout_members.specs.Clashes.{clashes, differs}
use Rattle.class_layout_members.specs.Views.{definition, member}
use Rattle.class_layout_members.proofs.FirstLemmas.{clash_next}
use Rattle.class_layout_members.proofs.clash.clashing_names.Goals as goal

pub loop-member-preserved : goal.loop-member-preserved
loop-member-preserved c =
    let i = c.loop-member.member-index in
    let m = c.member-item.result in
    let members = c.args.members.now in
    let here = from_place members i m c.loop-member-test.true c.member-item.is in
    clash_next (map member members) (map member (drop (i + 1) members)) (member m) (option_map definition (get bytes_eq c.args.firsts.now m.name.now))
    (contains bytes_eq c.loop-member.names) (contains bytes_eq c.add_if_other.new.names) (clashes (map member members))
    (c.requires m.name.now)
    c.in_ok-add_if_other.ensures
    (λ q. sym (ap (λ l. contains bytes_eq c.loop-member.names q || list_any (λ p. bytes_eq q p.0 && differs (map member members) p) (map member l)) here) ∙ c.loop-member.invariant q)
