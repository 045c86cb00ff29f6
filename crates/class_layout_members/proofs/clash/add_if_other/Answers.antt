use Rattle.std.proofs.Common.{rules, ◌≡◌, true, option_map, arith}
use Rattle.std.specs.Str.{bytes_eq}
use Rattle.indexmap.specs.IndexMap.{get}
use Rattle.class_layout_members.specs.Clashes.{is_other}
use Rattle.class_layout_members.specs.Views.{definition}
use Rattle.class_layout_members.proofs.FirstLemmas.{added}
use Rattle.class_layout_members.proofs.clash.add_if_other.Goals as goal

pub returns : goal.returns
returns c =
    let m = c.args.member.now in
    let copied : c.in_ok-clone.field-0 ≡ m.name.now = search rules in
    let is : is_other m.name.now (option_map definition (get bytes_eq c.args.firsts.now m.name.now)) (definition m.definition) ≡ true = first_of (search (rules, c.is_other.ensures, c.if-not-is_other.false), grind (arith, c.is_other.ensures, c.if-not-is_other.false)) in
    added c.args.names.now.keys c.insert.new.self.keys m.name.now c.in_ok-clone.field-0 (is_other m.name.now (option_map definition (get bytes_eq c.args.firsts.now m.name.now)) (definition m.definition)) is copied c.in_ok-insert.ensures.keys
