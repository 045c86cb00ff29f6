use Rattle.std.proofs.Common.{◌≡◌, ◌++◌, take}
use Rattle.refcount_insert.proofs.plan.lay_ops.Given as goal

abbrev pub invariant-loop-op : goal.invariant-loop-op
invariant-loop-op l = l.done.items ≡ l.initial.done.items ++ take l.op-index l.ops
