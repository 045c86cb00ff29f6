use Rattle.std.proofs.Common.{◌+◌, ◌∙◌, map, drop, option_map, sym, ap}
use Rattle.std.specs.Map.{lookup}
use Rattle.std.specs.Option.{option_or}
use Rattle.std.specs.Str.{bytes_eq}
use Rattle.class_layout_members.proofs.RowLemmas.{from_place}
use Rattle.indexmap.specs.IndexMap.{get}
use Rattle.class_layout_members.specs.Views.{definition, member}
use Rattle.class_layout_members.proofs.FirstLemmas.{first_next, mapped_first}
use Rattle.class_layout_members.proofs.clash.first_definitions.Goals as goal

pub loop-member-preserved : goal.loop-member-preserved
loop-member-preserved c =
    let i = c.loop-member.member-index in
    let m = c.member-item.result in
    let members = c.args.members.now in
    let here = from_place members i m c.loop-member-test.true c.member-item.is in
    first_next (λ q. option_map definition (get bytes_eq c.loop-member.firsts q)) m.name.now (definition m.definition) (λ q. option_map definition (get bytes_eq c.add_first.new.firsts q))
    (map member (drop (i + 1) members))
    (λ q. lookup (bytes_eq q) (map member members))
    (λ q. ap (option_map definition) (c.in_ok-add_first.ensures q) ∙ mapped_first definition (get bytes_eq c.loop-member.firsts q) (bytes_eq q m.name.now) m.definition)
    (λ q. sym (ap (λ l. option_or (option_map definition (get bytes_eq c.loop-member.firsts q)) (lookup (bytes_eq q) (map member l))) here) ∙ c.loop-member.invariant q)
