use Rattle.std.proofs.Common.{rules, ◌≡◌, ◌∙◌, ◌+◌, true, false, drop, get_or, option_map, sym, ap}
use Rattle.class_layout_members.specs.Views.{definitions_in}
use Rattle.class_layout_members.proofs.RowLemmas.{from_number}
use Rattle.class_layout_members.proofs.FirstLemmas.{find_hit, find_miss}
use Rattle.py_check_overrides.specs.Overrides.{clash_in, says_other}
use Rattle.py_check_overrides.specs.Views.{owns}
use Rattle.py_check_overrides.proofs.ClashLemmas.{says_other_is}
use Rattle.py_check_overrides.proofs.clash.class_of_clash.Goals as goal

pub returns-then-class_says_other : goal.returns-then-class_says_other
returns-then-class_says_other c =
    let i = c.loop-class.class-index in
    let row = c.args.row.now in
    let name = c.args.name.now in
    let all = owns c.args.members.now in
    let yes : true ≡ c.class_says_other.result = search (rules, c.if-class_says_other.true) in
    let is : true ≡ says_other all row name (get_or row i 0) = yes ∙ c.class_says_other.ensures ∙ says_other_is all row name (definitions_in c.args.firsts.now) c.requires (get_or row i 0) in
    sym (ap (option_map (clash_in name)) (find_hit (says_other all row name) (drop i row) (get_or row i 0) (drop (i + 1) row) _ (from_number row i c.loop-class-test.true) is c.loop-class.invariant))

pub loop-class-preserved : goal.loop-class-preserved
loop-class-preserved c =
    let i = c.loop-class.class-index in
    let row = c.args.row.now in
    let name = c.args.name.now in
    let all = owns c.args.members.now in
    let no : false ≡ c.class_says_other.result = search (rules, c.if-class_says_other.false) in
    let is : false ≡ says_other all row name (get_or row i 0) = no ∙ c.class_says_other.ensures ∙ says_other_is all row name (definitions_in c.args.firsts.now) c.requires (get_or row i 0) in
    find_miss (says_other all row name) (drop i row) (get_or row i 0) (drop (i + 1) row) _ (from_number row i c.loop-class-test.true) is c.loop-class.invariant
