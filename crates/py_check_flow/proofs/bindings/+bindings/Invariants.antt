use Rattle.std.proofs.Common.{◌≡◌, ◌++◌, map, drop}
use Rattle.py_syntax.specs.Statements.{body_tree, arms_of, arm_tree, handlers_of, handler_tree}
use Rattle.py_check_flow.specs.Bindings.{bindings_of, suite_bindings, arms_bindings, handlers_bindings}
use Rattle.py_check_flow.proofs.bindings.+bindings.Given as goal

abbrev pub invariant-bind_all-loop-s : goal.invariant-bind_all-loop-s
invariant-bind_all-loop-s l =
    bindings_of l.found.items ++ suite_bindings (body_tree (drop l.s-index l.body)) ≡ bindings_of l.fn.found.items ++ suite_bindings (body_tree l.body)

abbrev pub invariant-bind-arms : goal.invariant-bind-arms
invariant-bind-arms l =
    bindings_of l.found.items ++ arms_bindings (arms_of (map arm_tree (drop l.body-index l.arms)))
    ≡ bindings_of l.fn.found.items ++ arms_bindings (arms_of (map arm_tree l.arms))

abbrev pub invariant-bind_handlers-loop-handler : goal.invariant-bind_handlers-loop-handler
invariant-bind_handlers-loop-handler l =
    bindings_of l.found.items ++ handlers_bindings (handlers_of (map handler_tree (drop l.handler-index l.handlers)))
    ≡ bindings_of l.fn.found.items ++ handlers_bindings (handlers_of (map handler_tree l.handlers))
