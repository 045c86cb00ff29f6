use Rattle.std.proofs.Common.{◌≡◌, take}
use Rattle.std.specs.List.{flat_map}
use Rattle.liveness.specs.Places.{reads_in}
use Rattle.liveness.proofs.places.block_row.Given as goal

abbrev pub invariant-loop-step : goal.invariant-loop-step
invariant-loop-step l = l.row.items ≡ flat_map reads_in (take l.step-index l.block.steps)
