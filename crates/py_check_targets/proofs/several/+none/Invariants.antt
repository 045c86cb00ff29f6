use Rattle.std.proofs.Common.{◌≡◌, map, drop}
use Rattle.py_typed.specs.Sorts.{sort, sorts_of}
use Rattle.py_check_targets.specs.Targets.{hold_none}
use Rattle.py_check_targets.proofs.several.+none.Given as goal

abbrev pub invariant-hold_none-loop-t : goal.invariant-hold_none-loop-t
invariant-hold_none-loop-t l = hold_none (sorts_of (map sort (drop l.t-index l.ts))) ≡ hold_none (sorts_of (map sort l.ts))
