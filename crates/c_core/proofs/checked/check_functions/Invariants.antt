use Rattle.std.proofs.Common.{◌≡◌, drop}
use Rattle.std.specs.List.{list_all}
use Rattle.c_core.specs.WellFormed.{function_fits}
use Rattle.c_core.proofs.checked.check_functions.Given as goal

abbrev pub invariant-loop-function : goal.invariant-loop-function
invariant-loop-function l =
    list_all (function_fits l.code) (drop l.function-index l.functions) ≡ list_all (function_fits l.code) l.functions
