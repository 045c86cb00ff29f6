use Rattle.std.proofs.Common.{◌≡◌, map, drop}
use Rattle.py_syntax.specs.Statements.{arms_of, arm_tree, body_tree, handlers_of, handler_tree}
use Rattle.py_check_flow.specs.Closed as spec
use Rattle.py_check_flow.proofs.closed.+breaks.Given as goal

abbrev pub invariant-breaks_out-loop-s : goal.invariant-breaks_out-loop-s
invariant-breaks_out-loop-s l = spec.breaks_suite (body_tree (drop l.s-index l.body)) ≡ spec.breaks_suite (body_tree l.body)

abbrev pub invariant-breaks-arms : goal.invariant-breaks-arms
invariant-breaks-arms l = spec.breaks_arms (arms_of (map arm_tree (drop l.body-index l.arms))) ≡ spec.breaks_arms (arms_of (map arm_tree l.arms))

abbrev pub invariant-handlers_break-loop-handler : goal.invariant-handlers_break-loop-handler
invariant-handlers_break-loop-handler l =
    spec.breaks_handlers (handlers_of (map handler_tree (drop l.handler-index l.handlers))) ≡ spec.breaks_handlers (handlers_of (map handler_tree l.handlers))
