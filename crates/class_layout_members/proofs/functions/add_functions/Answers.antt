use Rattle.std.proofs.Common.{◌+◌, ◌∙◌, drop, sym, ap}
use Rattle.std.specs.Map.{lookup}
use Rattle.std.specs.Option.{option_or}
use Rattle.std.specs.Str.{bytes_eq}
use Rattle.class_layout_members.proofs.RowLemmas.{from_place}
use Rattle.indexmap.specs.IndexMap.{get}
use Rattle.class_layout_members.proofs.FirstLemmas.{first_next}
use Rattle.class_layout_members.proofs.functions.add_functions.Goals as goal

pub loop-name-preserved : goal.loop-name-preserved
loop-name-preserved c =
    let i = c.loop-name.name-index in
    let p = c.loop-name-item.result in
    let here = from_place c.args.methods.now i p c.loop-name-test.true c.loop-name-item.is in
    first_next (get bytes_eq c.loop-name.found) p.0 p.1 (get bytes_eq c.add_first.new.firsts) (drop (i + 1) c.args.methods.now)
    (λ q. option_or (get bytes_eq c.args.found.now q) (lookup (bytes_eq q) c.args.methods.now))
    c.in_ok-add_first.ensures
    (λ q. sym (ap (λ l. option_or (get bytes_eq c.loop-name.found q) (lookup (bytes_eq q) l)) here) ∙ c.loop-name.invariant q)
