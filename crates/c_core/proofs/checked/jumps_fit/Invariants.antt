use Rattle.std.proofs.Common.{◌≡◌, drop, false}
use Rattle.c_core.specs.WellFormed.{jumps_fit}
use Rattle.c_core.proofs.checked.jumps_fit.Given as goal

abbrev pub invariant-loop-place : goal.invariant-loop-place
invariant-loop-place l =
    jumps_fit l.labels l.place l.after_turn (drop l.place l.lines) ≡ jumps_fit l.labels 0 false l.lines
