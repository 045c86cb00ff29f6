use Rattle.std.proofs.Common.{◌≡◌, map, take}
use Rattle.ir_core.specs.Lower.{argument_in}
use Rattle.refcount_insert_lowering.proofs.operations.arguments_of.Given as goal

abbrev pub invariant-loop-argument : goal.invariant-loop-argument
invariant-loop-argument l = l.all.items ≡ map argument_in (take l.argument-index l.arguments)
