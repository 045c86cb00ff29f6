use Rattle.std.proofs.Common.{◌≡◌, map, drop}
use Rattle.py_binder.specs.Scope.{contains}
use Rattle.py_binder.proofs.table.is_among.Given as goal

abbrev pub invariant-loop-other : goal.invariant-loop-other
invariant-loop-other l = contains (map (λ n. n.now) (drop l.other-index l.names)) l.name ≡ contains (map (λ n. n.now) l.names) l.name
