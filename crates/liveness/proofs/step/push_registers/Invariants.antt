use Rattle.std.proofs.Common.{◌≡◌, ◌++◌, map, take}
use Rattle.liveness.specs.Paths.{number_of}
use Rattle.liveness.proofs.step.push_registers.Given as goal

abbrev pub invariant-loop-register : goal.invariant-loop-register
invariant-loop-register l = l.reads ≡ l.initial.reads ++ map number_of (take l.register-index l.registers)
