use Rattle.std.proofs.Common.{◌≡◌, drop}
use Rattle.std.specs.List.{list_all}
use Rattle.c_core.specs.WellFormed.{has_function}
use Rattle.c_core.proofs.checked.have_functions.Given as goal

abbrev pub invariant-loop-name : goal.invariant-loop-name
invariant-loop-name l =
    list_all (has_function l.code) (drop l.name-index l.names) ≡ list_all (has_function l.code) l.names
