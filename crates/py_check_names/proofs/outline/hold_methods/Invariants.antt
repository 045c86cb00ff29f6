use Rattle.std.proofs.Common.{◌≡◌, ◌++◌, drop}
use Rattle.py_syntax.specs.Statements.{body_tree}
use Rattle.py_check_names.specs.Walked.{func_trees}
use Rattle.py_check_names.specs.Outline.{methods_in}
use Rattle.py_check_names.proofs.outline.hold_methods.Given as goal

abbrev pub invariant-loop-s : goal.invariant-loop-s
invariant-loop-s l =
    func_trees l.functions.items ++ methods_in (body_tree (drop l.s-index l.body)) ≡ func_trees l.fn.functions.items ++ methods_in (body_tree l.body)
