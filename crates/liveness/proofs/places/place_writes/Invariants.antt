use Rattle.std.proofs.Common.{◌≡◌, map, take}
use Rattle.liveness.specs.Places.{asked_in, places}
use Rattle.liveness.proofs.places.place_writes.Given as goal

abbrev pub invariant-loop-block : goal.invariant-loop-block
invariant-loop-block l = l.rows.items ≡ map (asked_in l.asked) (places (take l.block-index l.blocks))
