use Rattle.std.proofs.Common.{◌≡◌, map, drop}
use Rattle.std.specs.Str.{bytes_eq}
use Rattle.indexmap.specs.IndexSet.{insert_all}
use Rattle.py_check_definitions.proofs.definitions.add_all.Given as goal

abbrev pub invariant-loop-name : goal.invariant-loop-name
invariant-loop-name l =
    insert_all bytes_eq l.earlier.keys (map (λ p. p.0) (drop l.name-index l.given)) ≡ insert_all bytes_eq l.fn.earlier.keys (map (λ p. p.0) l.given)
