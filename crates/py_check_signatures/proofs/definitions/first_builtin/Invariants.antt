use Rattle.std.proofs.Common.{◌≡◌, map, drop, find}
use Rattle.py_syntax.specs.Statements.{param_tree}
use Rattle.py_check_signatures.specs.Definitions.{is_builtin_name}
use Rattle.py_check_signatures.proofs.definitions.first_builtin.Given as goal

abbrev pub invariant-loop-name : goal.invariant-loop-name
invariant-loop-name l =
    find is_builtin_name (map (λ p. p.0) (map param_tree (drop l.name-index l.params))) ≡ find is_builtin_name (map (λ p. p.0) (map param_tree l.params))
