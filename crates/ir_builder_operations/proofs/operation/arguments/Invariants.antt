use Rattle.ir_builder_operations.proofs.Common.{◌≡◌, take, Var}
use Rattle.std.proofs.Common.{map}
use Rattle.ir_builder_operations.proofs.operation.arguments.Given as goal

abbrev pub invariant-loop-r : goal.invariant-loop-r
invariant-loop-r l = l.args ≡ map Var (take l.r-index l.operands)
