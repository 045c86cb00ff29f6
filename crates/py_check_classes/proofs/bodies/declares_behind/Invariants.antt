use Rattle.std.proofs.Common.{◌≡◌, drop}
use Rattle.py_syntax.specs.Statements.{body_tree}
use Rattle.py_check_classes.specs.Bodies.{declares_behind}
use Rattle.py_check_classes.proofs.bodies.declares_behind.Given as goal

abbrev pub invariant-loop-s : goal.invariant-loop-s
invariant-loop-s l =
    declares_behind l.methods.keys (body_tree (drop l.s-index l.body)) ≡ declares_behind l.fn.methods.keys (body_tree l.body)
