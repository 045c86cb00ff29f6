use Rattle.std.proofs.Common.{◌≡◌, drop}
use Rattle.c_core.specs.WellFormed.{spelled_functions}
use Rattle.c_core.proofs.well_formed.spelled_functions.Given as goal

abbrev pub invariant-loop-i : goal.invariant-loop-i
invariant-loop-i l = spelled_functions (drop l.i l.functions) ≡ spelled_functions l.functions
