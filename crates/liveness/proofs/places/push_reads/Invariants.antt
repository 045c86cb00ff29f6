use Rattle.std.proofs.Common.{◌≡◌, ◌++◌, map, take}
use Rattle.liveness.specs.Places.{reads_in}
use Rattle.liveness.proofs.places.push_reads.Given as goal

abbrev pub invariant-loop-step : goal.invariant-loop-step
invariant-loop-step l = l.rows.items ≡ l.initial.rows.items ++ map reads_in (take l.step-index l.block.steps)
