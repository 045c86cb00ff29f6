use Rattle.std.proofs.Common.{◌≡◌, map, drop, filter}
use Rattle.std.specs.Str.{bytes_eq}
use Rattle.indexmap.specs.IndexSet.{insert_all}
use Rattle.py_check_names.specs.Meanings.{is_own}
use Rattle.py_check_names.proofs.meanings.add_own.Given as goal

abbrev pub invariant-loop-name : goal.invariant-loop-name
invariant-loop-name l =
    insert_all bytes_eq l.own.keys (map (λ p. p.0) (filter (λ p. is_own p.1) (drop l.name-index l.seen)))
    ≡ insert_all bytes_eq l.fn.own.keys (map (λ p. p.0) (filter (λ p. is_own p.1) l.seen))
