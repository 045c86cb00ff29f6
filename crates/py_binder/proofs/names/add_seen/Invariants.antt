use Rattle.std.proofs.Common.{◌≡◌, ◌++◌, drop}
use Rattle.py_binder.specs.Scope.{all_there, seen_there}
use Rattle.py_binder.specs.Collected.{sights_of}
use Rattle.py_binder.proofs.names.add_seen.Given as goal

abbrev pub invariant-loop-sight : goal.invariant-loop-sight
invariant-loop-sight l =
    l.names.items ++ all_there seen_there (sights_of (drop l.sight-index l.sights))
    ≡ l.fn.names.items ++ all_there seen_there (sights_of l.sights)
