use Rattle.std.proofs.Common.{rules, ◌≡◌, ◌∙◌, map, find, Some, option_map, sym, ap}
use Rattle.std.specs.Option.{option_and_then, option_copied}
use Rattle.std.specs.Str.{bytes_eq}
use Rattle.indexmap.specs.IndexSet.{contains}
use Rattle.class_layout_members.specs.Views.{member}
use Rattle.py_check_overrides.specs.Overrides.{clash_in, clashing, says_other}
use Rattle.py_check_overrides.specs.Views.{own, owns}
use Rattle.py_check_overrides.proofs.ClashLemmas.{clashing_is}
use Rattle.py_check_overrides.proofs.clash.clash_along.Goals as goal

pub returns : goal.returns
returns c =
    let all = owns c.args.members.now in
    let row = c.args.row.now in
    let named : option_copied c.first_among.result ≡ Some c.in-Some.name.now = search (rules, c.in-Some.is, c.in-Some.name-is) in
    let is : Some c.in-Some.name.now ≡ clashing all row =
    sym named ∙ c.first_among.ensures
    ∙ clashing_is all row (map own c.as_slice.result.now) (map member c.args.defined.now) (contains bytes_eq c.in_ok-clashing.clashing) (ap (map own) c.as_slice.ensures ∙ c.in_ok-all.ensures) c.requires c.in_ok-clashing.ensures in
    c.class_of_clash.ensures ∙ ap (option_and_then (λ name. option_map (clash_in name) (find (says_other all row name) row))) is
