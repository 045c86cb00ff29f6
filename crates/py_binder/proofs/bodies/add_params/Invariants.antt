use Rattle.std.proofs.Common.{◌≡◌, ◌++◌, map, drop}
use Rattle.py_syntax.specs.Statements.{param_tree}
use Rattle.py_binder.proofs.bodies.add_params.Given as goal

abbrev pub invariant-loop-name : goal.invariant-loop-name
invariant-loop-name l =
    l.names.items ++ map (λ p. p.0) (map param_tree (drop l.name-index l.params))
    ≡ l.fn.names.items ++ map (λ p. p.0) (map param_tree l.params)
