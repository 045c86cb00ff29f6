use Rattle.std.proofs.Common.{rules, ◌≡◌, ◌∙◌, ◌&&◌, true, map, option_map, sym, ap, append-nil, arith}
use Rattle.std.specs.Str.{bytes_eq}
use Rattle.indexmap.specs.IndexMap.{get}
use Rattle.py_typed.specs.ClassTables.{class_table}
use Rattle.py_typed.proofs.FitLemmas.{and_left, and_right}
use Rattle.class_layout_members.specs.Clashes.{none_other, own_members}
use Rattle.class_layout_members.specs.Views.{definition, definitions_in, member}
use Rattle.class_layout_members.proofs.AgreementLemmas.{in_front, mapped_or}
use Rattle.class_layout_members.proofs.clash.definitions_in_front.Goals as goal

pub returns : goal.returns
returns c =
    let table = class_table c.args.classes.now in
    let members = map member c.as_slice-members.result.now in
    let own = definitions_in c.in_ok-firsts.firsts in
    let above = definitions_in c.args.above.now in
    let yes : c.agree_with_both.result ≡ true = first_of (search (rules, c.if-not-agree_with_both.false), grind (arith, c.if-not-agree_with_both.false)) in
    let both : (none_other own members && none_other above members) ≡ true = sym c.agree_with_both.ensures ∙ yes in
    in_front table c.args.class members own above (definitions_in c.add_missing.new.firsts)
    (ap (map member) c.as_slice-members.ensures ∙ c.in_ok-row.ensures ∙ append-nil (own_members table c.args.class))
    c.in_ok-firsts.ensures
    (and_left (none_other own members) (none_other above members) both)
    (and_right (none_other own members) (none_other above members) both)
    (λ q. ap (option_map definition) (c.in_ok-add_missing.ensures q) ∙ mapped_or definition (get bytes_eq c.in_ok-firsts.firsts q) (get bytes_eq c.args.above.now q))
