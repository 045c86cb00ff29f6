use Rattle.std.proofs.Common.{◌≡◌, ◌++◌, take}
use Rattle.refcount_insert_rule.specs.Rule.{ups, downs}
use Rattle.refcount_insert.specs.Layout.{unsure}
use Rattle.refcount_insert.proofs.layout.counted.Given as goal

abbrev pub invariant-loop-r : goal.invariant-loop-r
invariant-loop-r l =
    l.ops.items ≡ ups l.counts.ups 0 ++ downs (unsure (take l.r-index l.counts.downs)) 0
