use Rattle.std.proofs.Common.{◌≡◌, ◌++◌, map, take}
use Rattle.ir_core.specs.Lower.{register_in}
use Rattle.refcount_insert_lowering.proofs.operations.push_registers.Given as goal

abbrev pub invariant-loop-register : goal.invariant-loop-register
invariant-loop-register l = l.all.items ≡ l.initial.all.items ++ map register_in (take l.register-index l.registers)
