use Rattle.std.proofs.Common.{◌≡◌, drop, false}
use Rattle.c_core.specs.Functions.{label_places}
use Rattle.c_core.specs.WellFormed.{jumps_fit}
use Rattle.c_core.proofs.well_formed.jumps_fit.Given as goal

abbrev pub invariant-loop-place : goal.invariant-loop-place
invariant-loop-place l =
    jumps_fit (label_places l.lines) l.place l.after_turn (drop l.place l.lines) ≡ jumps_fit (label_places l.lines) 0 false l.lines
