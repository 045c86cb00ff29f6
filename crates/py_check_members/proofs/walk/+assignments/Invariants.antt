use Rattle.std.proofs.Common.{◌≡◌, ◌++◌, map, drop}
use Rattle.py_syntax.specs.Statements.{body_tree, arms_of, arm_tree, handlers_of, handler_tree}
use Rattle.py_check_names.specs.Walked.{trees}
use Rattle.py_check_members.specs.Deeds.{suite_assignments, arms_assignments, handlers_assignments}
use Rattle.py_check_members.proofs.walk.+assignments.Given as goal

abbrev pub invariant-find_all-loop-s : goal.invariant-find_all-loop-s
invariant-find_all-loop-s l =
    trees l.found.items ++ suite_assignments (body_tree (drop l.s-index l.body)) ≡ trees l.fn.found.items ++ suite_assignments (body_tree l.body)

abbrev pub invariant-find-arms : goal.invariant-find-arms
invariant-find-arms l =
    trees l.found.items ++ arms_assignments (arms_of (map arm_tree (drop l.body-index l.arms)))
    ≡ trees l.fn.found.items ++ arms_assignments (arms_of (map arm_tree l.arms))

abbrev pub invariant-find_in_handlers-loop-handler : goal.invariant-find_in_handlers-loop-handler
invariant-find_in_handlers-loop-handler l =
    trees l.found.items ++ handlers_assignments (handlers_of (map handler_tree (drop l.handler-index l.handlers)))
    ≡ trees l.fn.found.items ++ handlers_assignments (handlers_of (map handler_tree l.handlers))
