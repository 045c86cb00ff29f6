use Rattle.std.proofs.Common.{◌≡◌, map, take}
use Rattle.liveness.specs.Places.{targets_of}
use Rattle.liveness.proofs.places.block_targets.Given as goal

abbrev pub invariant-loop-block : goal.invariant-loop-block
invariant-loop-block l = l.rows.items ≡ map targets_of (take l.block-index l.blocks)
