use Rattle.std.proofs.Common.{map, drop}
use Rattle.std.specs.Option.{option_map, option_copied}
use Rattle.py_typed.specs.Sorts.{sort}
use Rattle.py_check_context.specs.Context.{context}
use Rattle.py_check_messages.proofs.RowLemmas.{Remains}
use Rattle.py_check_values.specs.Aims.{aim_seen}
use Rattle.py_check_places.specs.Places.{with_names}
use Rattle.py_check_targets.specs.Targets.{aims}
use Rattle.py_check_places.specs.Views.{known_at, trees}
use Rattle.py_check_targets.specs.Views.{parts_from}
use Rattle.py_check_targets.proofs.targets.aims.Given as goal

abbrev pub invariant-loop-i : goal.invariant-loop-i
invariant-loop-i l =
    Remains (option_map (map aim_seen) l.found) l.fn.faults l.faults
    (aims (context l.scope) (known_at l.place) (option_map (map sort) (option_copied l.parts)) (trees l.leaves))
    (aims (context l.scope) (with_names (known_at l.place) l.names.items) (parts_from l.i (option_map (map sort) (option_copied l.parts))) (trees (drop l.i l.leaves)))
