use Rattle.std.proofs.Common.{◌≡◌, map, drop, find}
use Rattle.std.specs.Str.{bytes_eq}
use Rattle.indexmap.specs.IndexSet.{contains}
use Rattle.py_check_overrides.specs.Views.{own}
use Rattle.py_check_overrides.proofs.clash.first_among.Given as goal

abbrev pub invariant-loop-member : goal.invariant-loop-member
invariant-loop-member l = find (λ p. contains bytes_eq l.names p.0) (map own (drop l.member-index l.members)) ≡ find (λ p. contains bytes_eq l.names p.0) (map own l.members)
