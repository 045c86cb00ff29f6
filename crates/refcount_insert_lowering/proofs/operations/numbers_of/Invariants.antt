use Rattle.std.proofs.Common.{◌≡◌, map, take}
use Rattle.ir_core.specs.Lower.{number_of}
use Rattle.refcount_insert_lowering.proofs.operations.numbers_of.Given as goal

abbrev pub invariant-loop-register : goal.invariant-loop-register
invariant-loop-register l = l.all.items ≡ map number_of (take l.register-index l.registers)
