use Rattle.std.proofs.Common.{◌≡◌, ◌++◌, map, drop}
use Rattle.py_binder.specs.Scope.{all_there, held_there, function_scope}
use Rattle.py_binder.specs.Faults.{faults_among}
use Rattle.py_binder.specs.Collected.{sights_of}
use Rattle.py_binder.specs.Tables.{table_role, inside_role}
use Rattle.py_binder.proofs.bodies.add_all_functions.Given as goal

abbrev pub invariant-loop-sight : goal.invariant-loop-sight
invariant-loop-sight l =
    (l.funcs ++ map (function_scope (table_role l.inside.table.now)) (all_there held_there (sights_of (drop l.sight-index l.sights)))
    ≡ l.fn.funcs ++ map (function_scope (table_role l.inside.table.now)) (all_there held_there (sights_of l.sights)))
    × (l.faults ++ faults_among (table_role l.inside.table.now) (inside_role l.inside) (sights_of (drop l.sight-index l.sights))
    ≡ l.fn.faults ++ faults_among (table_role l.inside.table.now) (inside_role l.inside) (sights_of l.sights))
