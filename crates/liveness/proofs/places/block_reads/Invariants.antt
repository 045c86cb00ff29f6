use Rattle.std.proofs.Common.{◌≡◌, map, take}
use Rattle.liveness.specs.Places.{reads_of_block}
use Rattle.liveness.proofs.places.block_reads.Given as goal

abbrev pub invariant-loop-block : goal.invariant-loop-block
invariant-loop-block l = l.rows.items ≡ map reads_of_block (take l.block-index l.blocks)
