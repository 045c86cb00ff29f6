use Rattle.std.proofs.Common.{◌≡◌, ◌∙◌, map, refl, ap}
use Rattle.class_layout_members.specs.Views.{member}
use Rattle.py_check_classes.specs.Headers.{entry}
use Rattle.py_check_overrides.specs.Overrides.{clash_along, clash_of, defined_along, judged}
use Rattle.py_check_overrides.specs.Judged.{along_order}
use Rattle.py_check_overrides.specs.Views.{owns, verdict}
use Rattle.py_check_overrides.proofs.JudgeLemmas.{along_told}
use Rattle.py_check_overrides.proofs.judge.judge_along.Goals as goal

pub returns-clause-judged : goal.returns-clause-judged
returns-clause-judged c =
    let classes = map entry c.args.classes.now.headers.now in
    let all = owns c.args.classes.now.members.now in
    let row = c.as_slice-row.ensures ∙ c.in_ok-row.ensures in
    let is : verdict c.verdict_of.result ≡ judged (clash_of classes all c.args.class) = c.verdict_of.ensures ∙ ap judged (c.in_ok-clash.ensures ∙ ap (clash_along all) row) in
    let along : map member c.as_slice-members.result.now ≡ along_order classes all c.args.class = ap (map member) c.as_slice-members.ensures ∙ c.in_ok-members.ensures ∙ ap (defined_along all) row in
    λ lines. along_told classes all lines c.args.class (record { verdict = c.verdict_of.result; above = _; new = c.in_ok-new.new }) (map member c.as_slice-members.result.now) refl is along c.in_ok-new.ensures.first c.in_ok-new.ensures.by
