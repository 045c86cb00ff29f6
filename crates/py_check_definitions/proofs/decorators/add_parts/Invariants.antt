use Rattle.std.proofs.Common.{◌≡◌, ◌++◌, map, drop, ◌&&◌}
use Rattle.py_syntax.specs.Expressions.{expr_tree}
use Rattle.py_check_context.specs.Context.{context}
use Rattle.py_check_places.specs.Views.{known_at}
use Rattle.py_check_definitions.specs.Decorators.{parts_typed, decorators_said}
use Rattle.py_check_definitions.specs.Views.{names_there}
use Rattle.py_check_definitions.proofs.decorators.add_parts.Given as goal

abbrev pub invariant-loop-e : goal.invariant-loop-e
invariant-loop-e l =
    ((l.typed && parts_typed (context l.scope) (known_at l.place) (names_there l.asked (context l.scope)) (map expr_tree (drop l.e-index l.parts)))
    ≡ parts_typed (context l.scope) (known_at l.place) (names_there l.asked (context l.scope)) (map expr_tree l.parts))
    × (l.faults ++ decorators_said (context l.scope) (known_at l.place) (map expr_tree (drop l.e-index l.parts))
    ≡ l.fn.faults ++ decorators_said (context l.scope) (known_at l.place) (map expr_tree l.parts))
