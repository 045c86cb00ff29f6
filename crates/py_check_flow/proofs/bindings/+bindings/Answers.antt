use Rattle.std.proofs.Common.{◌≡◌, ◌++◌}
use Rattle.py_syntax.specs.Statements.{stmt_tree, body_tree}
use Rattle.py_check_flow.specs.Bindings.{bindings_of, stmt_bindings, suite_bindings}
use Rattle.py_check_flow.proofs.BindingLemmas.{if_ok, if_end, for_end, try_end, no_last, some_last}
use Rattle.py_check_flow.proofs.bindings.+bindings.Goals as goal

pub bind-returns-after-arms : goal.bind-returns-after-arms
bind-returns-after-arms t c =
    if_ok c.bind_all-in-If.result (λ done. bindings_of c.bind_all-in-If.new.found.items ≡ bindings_of c.arms.found.items ++ suite_bindings (body_tree c.as_slice-in-If.result.now)) (λ done. bindings_of c.bind_all-in-If.new.found.items ≡ bindings_of c.args.found.now.items ++ stmt_bindings (stmt_tree c.args.s.now))
    (λ done e. if_end c.args.s.now c.in-If.arms c.as_slice-arms.result.now c.in-If.other c.as_slice-in-If.result.now c.in-If.is c.as_slice-arms.ensures c.as_slice-in-If.ensures c.arms.body-index c.arms-test.false _ _ _ c.arms.invariant e)
    c.bind_all-in-If.ensures

pub bind-returns-in_ok-bind_target-in-For : goal.bind-returns-in_ok-bind_target-in-For
bind-returns-in_ok-bind_target-in-For t c =
    if_ok c.bind_all-in-For.result (λ done. bindings_of c.bind_all-in-For.new.found.items ≡ bindings_of c.bind_target-in-For.new.found.items ++ suite_bindings (body_tree c.as_slice-in-For.result.now)) (λ done. bindings_of c.bind_all-in-For.new.found.items ≡ bindings_of c.args.found.now.items ++ stmt_bindings (stmt_tree c.args.s.now))
    (λ done e. for_end c.args.s.now c.in-For.target _ c.in-For.body c.as_slice-in-For.result.now c.in-For.is c.as_slice-in-For.ensures _ _ _ c.in_ok-bind_target-in-For.ensures e)
    c.bind_all-in-For.ensures

pub bind-returns-in-None : goal.bind-returns-in-None
bind-returns-in-None t c =
    try_end c.args.s.now c.in-Try.body c.as_slice-in-Try.result.now c.in-Try.handlers c.as_slice-in-Try-2.result.now c.in-Try.last c.in-Try.is c.as_slice-in-Try.ensures c.as_slice-in-Try-2.ensures _ _ _ _ c.in_ok-bind_all-in-Try.ensures c.in_ok-bind_handlers-in-Try.ensures (no_last c.in-Try.last c.in-None.is _)

pub bind-returns-in-Some : goal.bind-returns-in-Some
bind-returns-in-Some t c =
    if_ok c.bind_all-in-Some.result (λ done. bindings_of c.bind_all-in-Some.new.found.items ≡ bindings_of c.bind_handlers.new.found.items ++ suite_bindings (body_tree c.as_slice-in-Some.result.now)) (λ done. bindings_of c.bind_all-in-Some.new.found.items ≡ bindings_of c.args.found.now.items ++ stmt_bindings (stmt_tree c.args.s.now))
    (λ done e. try_end c.args.s.now c.in-Try.body c.as_slice-in-Try.result.now c.in-Try.handlers c.as_slice-in-Try-2.result.now c.in-Try.last c.in-Try.is c.as_slice-in-Try.ensures c.as_slice-in-Try-2.ensures _ _ _ _ c.in_ok-bind_all-in-Try.ensures c.in_ok-bind_handlers-in-Try.ensures (some_last c.in-Try.last c.in-Some.last c.as_slice-in-Some.result.now c.in-Some.is c.as_slice-in-Some.ensures _ _ e))
    c.bind_all-in-Some.ensures
