use Rattle.std.proofs.Common.{◌≡◌, ◌++◌, map, drop}
use Rattle.std.specs.Str.{bytes_eq}
use Rattle.indexmap.specs.IndexMap.{get}
use Rattle.py_check_names.specs.Meanings.{by_role}
use Rattle.py_check_names.proofs.meanings.add_meanings.Given as goal

abbrev pub invariant-loop-name : goal.invariant-loop-name
invariant-loop-name l =
    l.pairs.items ++ map (λ p. (p.0, by_role (get bytes_eq l.known.said) l.known.variables.keys l.own.keys p.0 p.1)) (drop l.name-index l.seen)
    ≡ l.fn.pairs.items ++ map (λ p. (p.0, by_role (get bytes_eq l.known.said) l.known.variables.keys l.own.keys p.0 p.1)) l.seen
