use Rattle.std.proofs.Common.{take}
use Rattle.refcount_insert.specs.Detours.{AreFronts}
use Rattle.refcount_insert.proofs.detours.fronts_of.Given as goal

abbrev pub invariant-loop-counts : goal.invariant-loop-counts
invariant-loop-counts l = AreFronts (take l.counts-index l.all) l.fronts.items
