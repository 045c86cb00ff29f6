use Rattle.std.proofs.Common.{◌≡◌, map, take}
use Rattle.liveness.specs.Steps.{step_of}
use Rattle.liveness.proofs.step.kept_steps.Given as goal

abbrev pub invariant-loop-op : goal.invariant-loop-op
invariant-loop-op l = l.all.items ≡ map step_of (take l.op-index l.ops)
