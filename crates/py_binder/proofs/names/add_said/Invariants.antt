use Rattle.std.proofs.Common.{◌≡◌, ◌++◌, drop}
use Rattle.py_binder.specs.Scope.{all_there, said_there}
use Rattle.py_binder.specs.Collected.{sights_of}
use Rattle.py_binder.proofs.names.add_said.Given as goal

abbrev pub invariant-loop-sight : goal.invariant-loop-sight
invariant-loop-sight l =
    l.said.items ++ all_there said_there (sights_of (drop l.sight-index l.sights))
    ≡ l.fn.said.items ++ all_there said_there (sights_of l.sights)
