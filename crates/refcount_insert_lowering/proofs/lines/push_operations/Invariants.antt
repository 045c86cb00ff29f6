use Rattle.std.proofs.Common.{◌≡◌, ◌++◌, take}
use Rattle.ir_core.specs.Lower.{op_lines}
use Rattle.refcount_insert_lowering.proofs.lines.push_operations.Given as goal

abbrev pub invariant-loop-op : goal.invariant-loop-op
invariant-loop-op l = l.lines ≡ l.initial.lines ++ op_lines l.p (take l.op-index l.ops)
