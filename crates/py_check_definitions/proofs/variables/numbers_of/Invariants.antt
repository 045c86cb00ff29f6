use Rattle.std.proofs.Common.{◌≡◌, ◌++◌, drop}
use Rattle.py_check_definitions.specs.Variables.{numbers_from}
use Rattle.py_check_definitions.proofs.variables.numbers_of.Given as goal

abbrev pub invariant-loop-i : goal.invariant-loop-i
invariant-loop-i l = l.numbers.items ++ numbers_from l.i (drop l.i l.names) ≡ numbers_from 0 l.names
