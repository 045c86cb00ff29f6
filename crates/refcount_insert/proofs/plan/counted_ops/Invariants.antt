use Rattle.std.proofs.Common.{take}
use Rattle.refcount_insert_counts.specs.Known.{owned_at}
use Rattle.refcount_insert.specs.Plan.{AreCountedOps}
use Rattle.refcount_insert.proofs.plan.counted_ops.Given as goal

abbrev pub invariant-loop-p : goal.invariant-loop-p
invariant-loop-p l = AreCountedOps l.known l.regs (owned_at l.known l.regs l.b) (take l.p l.ops) l.done.items
