use Rattle.std.proofs.Common.{◌≡◌, ◌++◌, map, drop}
use Rattle.std.specs.Option.{option_map}
use Rattle.py_typed.specs.Sorts.{sort}
use Rattle.py_check_targets.specs.Targets.{held_sorts}
use Rattle.py_check_values.specs.Aims.{aim_seen}
use Rattle.py_check_targets.proofs.values.held_types.Given as goal

abbrev pub invariant-loop-a : goal.invariant-loop-a
invariant-loop-a l =
    option_map (λ ts. map sort l.types ++ ts) (held_sorts (map aim_seen (drop l.a-index l.aims))) ≡ held_sorts (map aim_seen l.aims)
