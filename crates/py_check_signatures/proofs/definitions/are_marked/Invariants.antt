use Rattle.std.proofs.Common.{◌≡◌, map, drop}
use Rattle.py_syntax.specs.Statements.{param_tree}
use Rattle.py_check_signatures.specs.Definitions.{are_marked}
use Rattle.py_check_signatures.proofs.definitions.are_marked.Given as goal

abbrev pub invariant-loop-mark : goal.invariant-loop-mark
invariant-loop-mark l =
    are_marked (map param_tree (drop l.mark-index l.params)) ≡ are_marked (map param_tree l.params)
