use Rattle.std.proofs.Common.{◌≡◌, ◌++◌, map, drop}
use Rattle.py_typed.specs.Statements.{variable}
use Rattle.py_check_context.specs.Context.{var_sort}
use Rattle.py_check_definitions.specs.Variables.{variables_from, typed_variables}
use Rattle.py_check_definitions.proofs.variables.typed_variables.Given as goal

abbrev pub invariant-loop-i : goal.invariant-loop-i
invariant-loop-i l =
    map variable l.variables ++ variables_from l.i (map var_sort l.types) (drop l.i l.names) ≡ typed_variables (map var_sort l.types) l.names
