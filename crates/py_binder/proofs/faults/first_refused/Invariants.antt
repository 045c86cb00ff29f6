use Rattle.std.proofs.Common.{◌≡◌, drop, find}
use Rattle.py_binder.specs.Scope.{contains}
use Rattle.py_binder.proofs.faults.first_refused.Given as goal

abbrev pub invariant-loop-name : goal.invariant-loop-name
invariant-loop-name l = find (contains l.refused.keys) (drop l.name-index l.names) ≡ find (contains l.refused.keys) l.names
