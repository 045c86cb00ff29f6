use Rattle.std.proofs.Common.{◌≡◌, ◌++◌, drop}
use Rattle.py_binder.specs.Faults.{body_faults}
use Rattle.py_binder.specs.Collected.{sights_of}
use Rattle.py_binder.specs.Tables.{table_role, inside_role}
use Rattle.py_binder.proofs.faults.add_body_faults.Given as goal

abbrev pub invariant-loop-sight : goal.invariant-loop-sight
invariant-loop-sight l =
    l.faults ++ body_faults (table_role l.inside.table.now) (inside_role l.inside) l.refused.keys (sights_of (drop l.sight-index l.sights))
    ≡ l.fn.faults ++ body_faults (table_role l.inside.table.now) (inside_role l.inside) l.fn.refused.keys (sights_of l.sights)
