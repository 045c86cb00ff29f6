use Rattle.std.proofs.Common.{◌≡◌, map, drop}
use Rattle.py_syntax.specs.Statements.{param_tree}
use Rattle.py_check_signatures.specs.Definitions.{repeated}
use Rattle.py_check_signatures.proofs.definitions.first_repeated.Given as goal

abbrev pub invariant-loop-name : goal.invariant-loop-name
invariant-loop-name l =
    repeated l.before.keys (map (λ p. p.0) (map param_tree (drop l.name-index l.params))) ≡ repeated l.fn.before.keys (map (λ p. p.0) (map param_tree l.params))
