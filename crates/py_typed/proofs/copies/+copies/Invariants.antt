use Rattle.std.proofs.Common.{◌≡◌, map, take}
use Rattle.py_typed.specs.Sorts.{sort}
use Rattle.py_typed.proofs.copies.+copies.Given as goal

abbrev pub invariant-copies-loop-t : goal.invariant-copies-loop-t
invariant-copies-loop-t l = map sort l.found ≡ map sort (take l.t-index l.ts)
