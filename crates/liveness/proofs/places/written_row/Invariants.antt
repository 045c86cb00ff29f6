use Rattle.std.proofs.Common.{◌≡◌, take}
use Rattle.std.specs.List.{flat_map}
use Rattle.liveness.specs.Places.{writes_in}
use Rattle.liveness.proofs.places.written_row.Given as goal

abbrev pub invariant-loop-step : goal.invariant-loop-step
invariant-loop-step l = l.row ≡ flat_map writes_in (take l.step-index l.block.steps)
