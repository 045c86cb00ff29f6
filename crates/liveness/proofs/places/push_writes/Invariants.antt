use Rattle.std.proofs.Common.{◌≡◌, ◌++◌, map, take}
use Rattle.liveness.specs.Places.{asked_in}
use Rattle.liveness.proofs.places.push_writes.Given as goal

abbrev pub invariant-loop-step : goal.invariant-loop-step
invariant-loop-step l = l.rows.items ≡ l.initial.rows.items ++ map (asked_in l.asked) (take l.step-index l.steps)
