use Rattle.std.proofs.Common.{rules, ◌≡◌, ◌+◌, true, false, map, drop, get_or, slice_get}
use Rattle.class_layout_members.proofs.RowLemmas.{from_number}
use Rattle.class_layout_members.proofs.FirstLemmas.{all_hit, all_miss}
use Rattle.py_check_overrides.specs.Overrides.{passed}
use Rattle.py_check_overrides.specs.Views.{verdict}
use Rattle.py_check_overrides.proofs.judge.all_pass.Goals as goal

pub returns-then-not-passes : goal.returns-then-not-passes
returns-then-not-passes c =
    let i = c.loop-base.base-index in
    let row = c.args.bases.now in
    let before = map verdict c.args.before.now in
    let no : passed (slice_get before (get_or row i 0)) ≡ false = search (rules, c.passes.ensures, c.if-not-passes.true) in
    all_hit (λ b. passed (slice_get before b)) (drop i row) (get_or row i 0) (drop (i + 1) row) _ (from_number row i c.loop-base-test.true) no c.loop-base.invariant

pub loop-base-preserved : goal.loop-base-preserved
loop-base-preserved c =
    let i = c.loop-base.base-index in
    let row = c.args.bases.now in
    let before = map verdict c.args.before.now in
    let yes : passed (slice_get before (get_or row i 0)) ≡ true = search (rules, c.passes.ensures, c.if-not-passes.false) in
    all_miss (λ b. passed (slice_get before b)) (drop i row) (get_or row i 0) (drop (i + 1) row) _ (from_number row i c.loop-base-test.true) yes c.loop-base.invariant
