use Rattle.std.proofs.Common.{rules, ◌≡◌, ◌∙◌, true, map, length, slice_get, get_or, Some, refl, sym, arith}
use Rattle.std.proofs.lemmas.List.{length-map}
use Rattle.std.specs.List.{list_all}
use Rattle.py_check_classes.specs.Headers.{entry}
use Rattle.py_check_overrides.specs.Overrides.{passed, own_of}
use Rattle.py_check_overrides.specs.Lines.{IsNewOf, known}
use Rattle.py_check_overrides.specs.Judged.{IsJudged}
use Rattle.py_check_overrides.specs.Views.{owns, verdict}
use Rattle.py_check_overrides.proofs.JudgeLemmas.{not_passed, below_passes, below_judged, one_row, for_all}
use Rattle.py_check_overrides.proofs.judge.judge_typed.Goals as goal

pub returns-then-not-all_pass-clause-judged : goal.returns-then-not-all_pass-clause-judged
returns-then-not-all_pass-clause-judged c =
    not_passed (map entry c.args.classes.now.headers.now) (owns c.args.classes.now.members.now) c.args.lines.now (length c.args.before.now) c.silent.result c.silent.ensures.above c.silent.ensures.new c.silent.ensures.verdict

pub returns-in-Some-clause-verdict : goal.returns-in-Some-clause-verdict
returns-in-Some-clause-verdict c =
    let headers = c.args.classes.now.headers.now in
    let all = owns c.args.classes.now.members.now in
    let before = map verdict c.args.before.now in
    let bases = c.args.bases.now in
    let yes : list_all (λ b. passed (slice_get before b)) bases ≡ true = first_of (search (rules, c.all_pass.ensures, c.if-not-all_pass.false), grind (arith, c.all_pass.ensures, c.if-not-all_pass.false)) in
    let least = c.in-len1.len_at_least in
    let most = c.in-len1.len_below in
    let one = one_row bases (omega (arith, least, most)) in
    let new : IsNewOf (length c.args.before.now) (known c.args.lines.now (get_or bases 0 0)) (own_of all (length c.args.before.now)) c.in-Some.new = search (rules, c.in_ok-new.ensures, c.in-Some.is) in
    below_passes headers all _ c.requires.kept (length c.args.before.now) (get_or bases 0 0) c.requires.there (sym c.requires.bases ∙ one) before c.args.lines.now c.in-Some.new new c.requires.told bases one yes

pub returns-in-Some-clause-judged : goal.returns-in-Some-clause-judged
returns-in-Some-clause-judged c =
    let headers = c.args.classes.now.headers.now in
    let all = owns c.args.classes.now.members.now in
    let before = map verdict c.args.before.now in
    let bases = c.args.bases.now in
    let yes : list_all (λ b. passed (slice_get before b)) bases ≡ true = first_of (search (rules, c.all_pass.ensures, c.if-not-all_pass.false), grind (arith, c.all_pass.ensures, c.if-not-all_pass.false)) in
    let least = c.in-len1.len_at_least in
    let most = c.in-len1.len_below in
    let one = one_row bases (omega (arith, least, most)) in
    let new : IsNewOf (length c.args.before.now) (known c.args.lines.now (get_or bases 0 0)) (own_of all (length c.args.before.now)) c.in-Some.new = search (rules, c.in_ok-new.ensures, c.in-Some.is) in
    below_judged headers all _ c.requires.kept (length c.args.before.now) (get_or bases 0 0) c.requires.there (sym c.requires.bases ∙ one) before c.args.lines.now c.in-Some.new new c.requires.told bases one yes
    (record { verdict = _; above = Some (get_or bases 0 0); new = c.in-Some.new }) refl refl (length-map c.args.before.now verdict)

pub returns-clause-judged : goal.returns-clause-judged
returns-clause-judged c =
    for_all (λ lines judged. IsJudged (map entry c.args.classes.now.headers.now) (owns c.args.classes.now.members.now) lines (length c.args.before.now) judged) c.judge_along.result c.args.lines.now c.judge_along.ensures.judged
