use Rattle.std.proofs.Common.{rules, ◌≡◌, ◌+◌, true, false, map, drop, option_map, sym, ap}
use Rattle.std.specs.Str.{bytes_eq}
use Rattle.indexmap.specs.IndexSet.{contains}
use Rattle.class_layout_members.proofs.RowLemmas.{from_place}
use Rattle.class_layout_members.proofs.FirstLemmas.{find_hit, find_miss}
use Rattle.py_check_overrides.specs.Overrides.{Own}
use Rattle.py_check_overrides.specs.Views.{own}
use Rattle.py_check_overrides.proofs.clash.first_among.Goals as goal

pub returns-then-contains : goal.returns-then-contains
returns-then-contains c =
    let i = c.loop-member.member-index in
    let m = c.member-item.result in
    let members = c.args.members.now in
    let is : true ≡ contains bytes_eq c.args.names.now m.name.now = search (rules, c.contains.ensures, c.if-contains.true) in
    let here = from_place members i m c.loop-member-test.true c.member-item.is in
    sym (ap (option_map (λ (p : Own). p.0)) (find_hit (λ p. contains bytes_eq c.args.names.now p.0) (map own (drop i members)) (own m) (map own (drop (i + 1) members)) _ (ap (map own) here) is c.loop-member.invariant))

pub loop-member-preserved : goal.loop-member-preserved
loop-member-preserved c =
    let i = c.loop-member.member-index in
    let m = c.member-item.result in
    let members = c.args.members.now in
    let is : false ≡ contains bytes_eq c.args.names.now m.name.now = search (rules, c.contains.ensures, c.if-contains.false) in
    let here = from_place members i m c.loop-member-test.true c.member-item.is in
    find_miss (λ p. contains bytes_eq c.args.names.now p.0) (map own (drop i members)) (own m) (map own (drop (i + 1) members)) _ (ap (map own) here) is c.loop-member.invariant
