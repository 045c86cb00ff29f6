use Rattle.std.proofs.Common.{◌≡◌, drop}
use Rattle.py_syntax.specs.Statements.{body_tree}
use Rattle.py_check_classes.specs.Bodies.{has_init}
use Rattle.py_check_classes.proofs.bodies.has_init.Given as goal

abbrev pub invariant-loop-s : goal.invariant-loop-s
invariant-loop-s l = has_init (body_tree (drop l.s-index l.body)) ≡ has_init (body_tree l.body)
