use Rattle.std.proofs.Common.{◌≡◌, ◌++◌, drop}
use Rattle.py_check.proofs.found.add_found.Given as goal

abbrev pub invariant-loop-d : goal.invariant-loop-d
invariant-loop-d l = l.faults ++ drop l.d-index l.found ≡ l.fn.faults ++ l.found
