use Rattle.std.proofs.Common.{◌≡◌, take}
use Rattle.liveness.specs.Paths.{registers_in}
use Rattle.liveness.proofs.step.among.Given as goal

abbrev pub invariant-loop-argument : goal.invariant-loop-argument
invariant-loop-argument l = l.reads ≡ registers_in (take l.argument-index l.arguments)
