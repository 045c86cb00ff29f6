use Rattle.std.proofs.Common.{◌≡◌, ◌++◌, drop}
use Rattle.py_syntax.specs.Statements.{body_tree}
use Rattle.py_check_members.specs.Bodies.{all_outside_said}
use Rattle.py_check_members.proofs.bodies.add_outside.Given as goal

abbrev pub invariant-loop-s : goal.invariant-loop-s
invariant-loop-s l =
    l.faults ++ all_outside_said (body_tree (drop l.s-index l.body)) ≡ l.fn.faults ++ all_outside_said (body_tree l.body)
