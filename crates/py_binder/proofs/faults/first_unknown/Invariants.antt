use Rattle.std.proofs.Common.{◌≡◌, drop}
use Rattle.py_binder.specs.Faults.{no_variable}
use Rattle.py_binder.specs.Tables.{table_role}
use Rattle.py_binder.proofs.faults.first_unknown.Given as goal

abbrev pub invariant-loop-name : goal.invariant-loop-name
invariant-loop-name l = no_variable (table_role l.table) (drop l.name-index l.names) ≡ no_variable (table_role l.table) l.names
