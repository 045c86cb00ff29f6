use Rattle.std.proofs.Common.{◌≡◌, map, drop}
use Rattle.std.specs.Option.{option_map}
use Rattle.py_typed.specs.Sorts.{sort}
use Rattle.py_check_signatures.proofs.DefinitionLemmas.{names}
use Rattle.py_check_definitions.specs.Starts.{param_sort}
use Rattle.py_check_definitions.proofs.starts.param_type.Given as goal

abbrev pub invariant-loop-i : goal.invariant-loop-i
invariant-loop-i l =
    param_sort (names (drop l.i l.params)) (drop l.i (map (option_map sort) l.sorts)) l.name ≡ param_sort (names l.params) (map (option_map sort) l.sorts) l.name
