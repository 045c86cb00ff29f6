use Rattle.std.proofs.Common.{◌≡◌, ◌++◌, drop}
use Rattle.py_check_context.specs.Context.{context}
use Rattle.py_check_flow.specs.Bindings.{bindings_of}
use Rattle.py_check_places.specs.Places.{locals_among}
use Rattle.py_check_places.proofs.places.locals_among.Given as goal

abbrev pub invariant-loop-b : goal.invariant-loop-b
invariant-loop-b l =
    l.found.items ++ locals_among (context l.scope) (bindings_of (drop l.b-index l.bound))
    ≡ locals_among (context l.scope) (bindings_of l.bound)
