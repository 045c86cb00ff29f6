use Rattle.std.proofs.Common.{◌≡◌, ◌++◌, map, drop}
use Rattle.py_typed.specs.Statements.{typed_func}
use Rattle.py_check_places.specs.Views.{known_at}
use Rattle.py_check_definitions.specs.Views.{headed_of}
use Rattle.py_check.specs.Module.{typed_functions, bodies_said}
use Rattle.py_check.specs.Parts.{module_context_of}
use Rattle.py_check.proofs.bodies.typed_functions.Given as goal

abbrev pub invariant-loop-f : goal.invariant-loop-f
invariant-loop-f l =
    (map typed_func l.typed ++ typed_functions (module_context_of l.module_context) (known_at l.fn.place).types.globals (map headed_of (drop l.f-index l.functions))
    ≡ typed_functions (module_context_of l.module_context) (known_at l.fn.place).types.globals (map headed_of l.functions))
    × (l.faults ++ bodies_said (module_context_of l.module_context) (known_at l.fn.place).types.globals (map headed_of (drop l.f-index l.functions))
    ≡ l.fn.faults ++ bodies_said (module_context_of l.module_context) (known_at l.fn.place).types.globals (map headed_of l.functions))
    × ((known_at l.place).types.globals ≡ (known_at l.fn.place).types.globals)
