use Rattle.std.proofs.Common.{◌≡◌, ◌++◌, take}
use Rattle.refcount_insert_rule.specs.Rule.{downs}
use Rattle.refcount_insert_counts.proofs.counts.lay_downs.Given as goal

abbrev pub invariant-loop-r : goal.invariant-loop-r
invariant-loop-r l = l.ops.items ≡ l.initial.ops.items ++ downs (take l.r-index l.fn.all) l.line
