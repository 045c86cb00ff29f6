use Rattle.std.proofs.Common.{◌≡◌, ◌++◌, map, drop}
use Rattle.py_syntax.specs.Statements.{body_tree, arms_of, arm_tree, handlers_of, handler_tree}
use Rattle.py_binder.specs.Sights.{suite_sights, arms_sights, handlers_sights}
use Rattle.py_binder.specs.Collected.{sights_of}
use Rattle.py_binder.proofs.statements.+statement.Given as goal

abbrev pub invariant-see_all-loop-s : goal.invariant-see_all-loop-s
invariant-see_all-loop-s l =
    sights_of l.sights.items ++ suite_sights l.home (body_tree (drop l.s-index l.body))
    ≡ sights_of l.fn.sights.items ++ suite_sights l.home (body_tree l.body)

abbrev pub invariant-see-arms : goal.invariant-see-arms
invariant-see-arms l =
    sights_of l.sights.items ++ arms_sights l.home (arms_of (map arm_tree (drop l.test-index l.arms)))
    ≡ sights_of l.fn.sights.items ++ arms_sights l.home (arms_of (map arm_tree l.arms))

abbrev pub invariant-see_handlers-loop-handler : goal.invariant-see_handlers-loop-handler
invariant-see_handlers-loop-handler l =
    sights_of l.sights.items ++ handlers_sights l.home (handlers_of (map handler_tree (drop l.handler-index l.handlers)))
    ≡ sights_of l.fn.sights.items ++ handlers_sights l.home (handlers_of (map handler_tree l.handlers))
