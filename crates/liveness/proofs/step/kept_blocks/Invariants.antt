use Rattle.std.proofs.Common.{◌≡◌, map, take}
use Rattle.liveness.specs.Steps.{steps_of}
use Rattle.liveness.proofs.step.kept_blocks.Given as goal

abbrev pub invariant-loop-block : goal.invariant-loop-block
invariant-loop-block l = l.all.items ≡ map steps_of (take l.block-index l.blocks)
