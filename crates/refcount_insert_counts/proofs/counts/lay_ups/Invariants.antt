use Rattle.std.proofs.Common.{◌≡◌, ◌++◌, take}
use Rattle.refcount_insert_rule.specs.Rule.{ups}
use Rattle.refcount_insert_counts.proofs.counts.lay_ups.Given as goal

abbrev pub invariant-loop-r : goal.invariant-loop-r
invariant-loop-r l = l.ops.items ≡ l.initial.ops.items ++ ups (take l.r-index l.fn.all) l.line
