use Rattle.py_binder.proofs.StatementLemmas.{on_ok, if_end, while_end, for_end, try_end, no_last, some_last}
use Rattle.py_binder.proofs.statements.+statement.Goals as goal

pub see-returns-after-arms : goal.see-returns-after-arms
see-returns-after-arms t c =
    on_ok c.see_all-in-If.result (λ e. if_end c.args.home c.args.s.now c.in-If.arms c.as_slice-arms.result.now c.in-If.other c.as_slice-in-If.result.now c.in-If.is c.as_slice-arms.ensures c.as_slice-in-If.ensures c.arms.test-index c.arms-test.false _ _ _ c.arms.invariant e)
    c.see_all-in-If.ensures

pub see-returns-in_ok-read-in-While : goal.see-returns-in_ok-read-in-While
see-returns-in_ok-read-in-While t c =
    on_ok c.see_all-in-While.result (λ e. while_end c.args.home c.args.s.now c.in-While.test c.in-While.body c.as_slice-in-While.result.now c.in-While.is c.as_slice-in-While.ensures _ _ _ c.in_ok-read-in-While.ensures e)
    c.see_all-in-While.ensures

pub see-returns-in_ok-read-in-For : goal.see-returns-in_ok-read-in-For
see-returns-in_ok-read-in-For t c =
    on_ok c.see_all-in-For.result (λ e. for_end c.args.home c.args.s.now c.in-For.target c.in-For.a c.in-For.body c.as_slice-in-For.result.now c.in-For.is c.as_slice-in-For.ensures _ _ _ _ c.in_ok-see_target-in-For.ensures c.in_ok-read-in-For.ensures e)
    c.see_all-in-For.ensures

pub see-returns-in-None : goal.see-returns-in-None
see-returns-in-None t c =
    try_end c.args.home c.args.s.now c.in-Try.body c.as_slice-in-Try.result.now c.in-Try.handlers c.as_slice-in-Try-2.result.now c.in-Try.last c.in-Try.is c.as_slice-in-Try.ensures c.as_slice-in-Try-2.ensures _ _ _ _ c.in_ok-see_all-in-Try.ensures c.in_ok-see_handlers-in-Try.ensures (no_last c.args.home c.in-Try.last c.in-None.is _)

pub see-returns-in-Some : goal.see-returns-in-Some
see-returns-in-Some t c =
    on_ok c.see_all-in-Some.result (λ e. try_end c.args.home c.args.s.now c.in-Try.body c.as_slice-in-Try.result.now c.in-Try.handlers c.as_slice-in-Try-2.result.now c.in-Try.last c.in-Try.is c.as_slice-in-Try.ensures c.as_slice-in-Try-2.ensures _ _ _ _ c.in_ok-see_all-in-Try.ensures c.in_ok-see_handlers-in-Try.ensures (some_last c.args.home c.in-Try.last c.in-Some.last c.as_slice-in-Some.result.now c.in-Some.is c.as_slice-in-Some.ensures _ _ e))
    c.see_all-in-Some.ensures
