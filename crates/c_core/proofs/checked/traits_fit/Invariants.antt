use Rattle.std.proofs.Common.{◌≡◌, drop}
use Rattle.std.specs.List.{list_all}
use Rattle.c_core.specs.WellFormed.{trait_fits}
use Rattle.c_core.proofs.checked.traits_fit.Given as goal

abbrev pub invariant-loop-entry : goal.invariant-loop-entry
invariant-loop-entry l =
    list_all (trait_fits l.code) (drop l.entry-index l.traits) ≡ list_all (trait_fits l.code) l.traits
