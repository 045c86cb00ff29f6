use Rattle.std.proofs.Common.{◌≡◌, ◌++◌, map, drop, ◌&&◌}
use Rattle.std.specs.Option.{option_map}
use Rattle.py_syntax.specs.Statements.{param_tree}
use Rattle.py_typed.specs.Sorts.{sort}
use Rattle.py_check_context.specs.Context.{context}
use Rattle.py_check_signatures.specs.Headers.{param_types, params_said, params_typed}
use Rattle.py_check_signatures.proofs.headers.add_params.Given as goal

abbrev pub invariant-loop-mark : goal.invariant-loop-mark
invariant-loop-mark l =
    (map (option_map sort) l.types ++ param_types (context l.scope).meaning (map param_tree (drop l.mark-index l.params)) ≡ map (option_map sort) l.fn.types ++ param_types (context l.scope).meaning (map param_tree l.params))
    × (l.faults ++ params_said (context l.scope).meaning (map param_tree (drop l.mark-index l.params)) ≡ l.fn.faults ++ params_said (context l.scope).meaning (map param_tree l.params))
    × ((l.typed && params_typed (context l.scope).meaning (map param_tree (drop l.mark-index l.params))) ≡ params_typed (context l.scope).meaning (map param_tree l.params))
