use Rattle.std.proofs.Common.{◌≡◌, ◌++◌, map, drop}
use Rattle.py_binder.specs.Tables.{inside_role}
use Rattle.py_binder.proofs.inside.with_roles.Given as goal

abbrev pub invariant-loop-name : goal.invariant-loop-name
invariant-loop-name l =
    l.names ++ map (λ name. (name, inside_role l.inside name)) (drop l.name-index l.seen)
    ≡ map (λ name. (name, inside_role l.inside name)) l.seen
