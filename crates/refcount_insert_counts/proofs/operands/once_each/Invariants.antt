use Rattle.std.proofs.Common.{take}
use Rattle.refcount_insert_counts.specs.Counts.{AreOnce, is_either}
use Rattle.refcount_insert_counts.proofs.operands.once_each.Given as goal

abbrev pub invariant-loop-r : goal.invariant-loop-r
invariant-loop-r l = AreOnce (is_either l.fn.target (take l.r-index l.reads)) l.all.items
