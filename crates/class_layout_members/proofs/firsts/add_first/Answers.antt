use Rattle.std.proofs.Common.{rules, ◌≡◌, false, is_some}
use Rattle.std.specs.Str.{bytes_eq}
use Rattle.indexmap.specs.IndexMap.{get}
use Rattle.class_layout_members.proofs.FirstLemmas.{noted_first}
use Rattle.class_layout_members.proofs.firsts.add_first.Goals as goal

pub returns : goal.returns
returns g c =
    let new : is_some (get bytes_eq c.args.firsts.now c.args.name.now) ≡ false = search (rules, c.contains_key.ensures, c.if-contains_key.false) in
    let copied : c.in_ok-clone.field-0 ≡ c.args.name.now = search rules in
    noted_first (get bytes_eq c.args.firsts.now) c.args.name.now c.args.value (get bytes_eq c.insert.new.self) c.in_ok-clone.field-0 new copied c.in_ok-insert.ensures.updates.0
