use Rattle.std.proofs.Common.{◌≡◌, map, drop}
use Rattle.py_syntax.specs.Statements.{arms_of, arm_tree, body_tree, handlers_of, handler_tree}
use Rattle.py_check_flow.specs.Closed as spec
use Rattle.py_check_flow.proofs.closed.+closed.Given as goal

abbrev pub invariant-is_closed-loop-s : goal.invariant-is_closed-loop-s
invariant-is_closed-loop-s l = spec.is_closed (body_tree (drop l.s-index l.body)) ≡ spec.is_closed (body_tree l.body)

abbrev pub invariant-closes-arms : goal.invariant-closes-arms
invariant-closes-arms l = spec.closed_arms (arms_of (map arm_tree (drop l.body-index l.arms))) ≡ spec.closed_arms (arms_of (map arm_tree l.arms))

abbrev pub invariant-closed_handlers-loop-handler : goal.invariant-closed_handlers-loop-handler
invariant-closed_handlers-loop-handler l =
    spec.closed_handlers (handlers_of (map handler_tree (drop l.handler-index l.handlers))) ≡ spec.closed_handlers (handlers_of (map handler_tree l.handlers))
