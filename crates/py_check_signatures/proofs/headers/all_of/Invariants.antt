use Rattle.std.proofs.Common.{◌≡◌, ◌++◌, map, drop}
use Rattle.std.specs.Option.{option_map}
use Rattle.py_typed.specs.Sorts.{sort}
use Rattle.py_check_signatures.specs.Headers.{all_of}
use Rattle.py_check_signatures.proofs.headers.all_of.Given as goal

abbrev pub invariant-loop-t : goal.invariant-loop-t
invariant-loop-t l =
    option_map (λ rest. map sort l.all ++ rest) (all_of (map (option_map sort) (drop l.t-index l.types))) ≡ all_of (map (option_map sort) l.types)
