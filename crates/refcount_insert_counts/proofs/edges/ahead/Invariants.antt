use Rattle.std.proofs.Common.{take}
use Rattle.std.specs.Prelude.{◌||◌}
use Rattle.liveness.specs.Paths.{is_among}
use Rattle.liveness.specs.Liveness.{starts_of}
use Rattle.refcount_insert_counts.specs.Counts.{AreOnce}
use Rattle.refcount_insert_counts.proofs.edges.ahead.Given as goal

abbrev pub invariant-loop-r : goal.invariant-loop-r
invariant-loop-r l =
    AreOnce (λ r. is_among (starts_of l.live l.a) r || is_among (take l.r-index (starts_of l.live l.b)) r) l.all.items
