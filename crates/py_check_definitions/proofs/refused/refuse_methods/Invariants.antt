use Rattle.std.proofs.Common.{◌≡◌, ◌++◌, drop}
use Rattle.py_syntax.specs.Statements.{body_tree}
use Rattle.py_check_definitions.specs.Refused.{methods_refused}
use Rattle.py_check_definitions.proofs.refused.refuse_methods.Given as goal

abbrev pub invariant-loop-s : goal.invariant-loop-s
invariant-loop-s l =
    l.faults ++ methods_refused (body_tree (drop l.s-index l.body)) ≡ l.fn.faults ++ methods_refused (body_tree l.body)
