use Rattle.ir_builder.proofs.Common.{◌≡◌, map, take, variable, variable_registers}
use Rattle.ir_builder.proofs.registers.registers_for.Given as goal

abbrev pub invariant-loop-one : goal.invariant-loop-one
invariant-loop-one l = l.registers ≡ variable_registers (map variable (take l.one-index l.variables))
