use Rattle.std.proofs.Common.{◌≡◌, map, drop}
use Rattle.py_typed.specs.Sorts.{sort}
use Rattle.py_check_context.specs.Context.{context}
use Rattle.py_check_flow.specs.Bindings.{name_in}
use Rattle.py_check_places.specs.Places.{bind_names}
use Rattle.py_check_places.specs.Views.{known_at, trees}
use Rattle.py_check_places.proofs.names.bind_names.Given as goal

abbrev pub invariant-loop-i : goal.invariant-loop-i
invariant-loop-i l =
    bind_names (context l.scope) l.holds (known_at l.place) (map name_in (trees (drop l.i l.targets))) (map sort (drop l.i l.parts))
    ≡ bind_names (context l.scope) l.holds (known_at l.fn.place) (map name_in (trees l.targets)) (map sort l.parts)
