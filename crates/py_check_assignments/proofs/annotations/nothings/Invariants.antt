use Rattle.std.proofs.Common.{◌≡◌, map}
use Rattle.std.specs.Prelude.{replicate}
use Rattle.py_typed.specs.Sorts as sorts
use Rattle.py_typed.specs.Sorts.{sort}
use Rattle.py_check_assignments.proofs.annotations.nothings.Given as goal

abbrev pub invariant-loop : goal.invariant-loop
invariant-loop l = map sort l.types ≡ replicate l.counter sorts.Nothing
