use Rattle.std.proofs.Common.{◌≡◌, ◌++◌, map, drop}
use Rattle.py_syntax.specs.Statements.{param_tree}
use Rattle.py_check_names.specs.Meanings.{number}
use Rattle.py_check_definitions.proofs.variables.param_numbers.Given as goal

abbrev pub invariant-loop-name : goal.invariant-loop-name
invariant-loop-name l =
    l.numbers.items ++ map (number l.own.keys) (map (λ p. p.0) (map param_tree (drop l.name-index l.params)))
    ≡ map (number l.own.keys) (map (λ p. p.0) (map param_tree l.params))
