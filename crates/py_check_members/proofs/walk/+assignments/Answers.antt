use Rattle.std.proofs.Common.{◌≡◌, ◌++◌}
use Rattle.py_syntax.specs.Statements.{stmt_tree, body_tree}
use Rattle.py_check_names.specs.Walked.{trees}
use Rattle.py_check_members.specs.Deeds.{stmt_assignments, suite_assignments}
use Rattle.py_check_members.proofs.WalkLemmas.{if_ok, if_end, try_end, no_last, some_last}
use Rattle.py_check_members.proofs.walk.+assignments.Goals as goal

pub find-returns-after-arms : goal.find-returns-after-arms
find-returns-after-arms t c =
    if_ok c.find_all-in-If.result (λ done. trees c.find_all-in-If.new.found.items ≡ trees c.arms.found.items ++ suite_assignments (body_tree c.as_slice-in-If.result.now)) (λ done. trees c.find_all-in-If.new.found.items ≡ trees c.args.found.now.items ++ stmt_assignments (stmt_tree c.args.s.now))
    (λ done e. if_end c.args.s.now c.in-If.arms c.as_slice-arms.result.now c.in-If.other c.as_slice-in-If.result.now c.in-If.is c.as_slice-arms.ensures c.as_slice-in-If.ensures c.arms.body-index c.arms-test.false _ _ _ c.arms.invariant e)
    c.find_all-in-If.ensures

pub find-returns-in-None : goal.find-returns-in-None
find-returns-in-None t c =
    try_end c.args.s.now c.in-Try.body c.as_slice-in-Try.result.now c.in-Try.handlers c.as_slice-in-Try-2.result.now c.in-Try.last c.in-Try.is c.as_slice-in-Try.ensures c.as_slice-in-Try-2.ensures _ _ _ _ c.in_ok-find_all-in-Try.ensures c.in_ok-find_in_handlers-in-Try.ensures (no_last c.in-Try.last c.in-None.is _)

pub find-returns-in-Some : goal.find-returns-in-Some
find-returns-in-Some t c =
    if_ok c.find_all-in-Some.result (λ done. trees c.find_all-in-Some.new.found.items ≡ trees c.find_in_handlers.new.found.items ++ suite_assignments (body_tree c.as_slice-in-Some.result.now)) (λ done. trees c.find_all-in-Some.new.found.items ≡ trees c.args.found.now.items ++ stmt_assignments (stmt_tree c.args.s.now))
    (λ done e. try_end c.args.s.now c.in-Try.body c.as_slice-in-Try.result.now c.in-Try.handlers c.as_slice-in-Try-2.result.now c.in-Try.last c.in-Try.is c.as_slice-in-Try.ensures c.as_slice-in-Try-2.ensures _ _ _ _ c.in_ok-find_all-in-Try.ensures c.in_ok-find_in_handlers-in-Try.ensures (some_last c.in-Try.last c.in-Some.last c.as_slice-in-Some.result.now c.in-Some.is c.as_slice-in-Some.ensures _ _ e))
    c.find_all-in-Some.ensures
