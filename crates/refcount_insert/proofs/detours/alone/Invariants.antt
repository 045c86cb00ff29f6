use Rattle.std.proofs.Common.{◌≡◌, length}
use Rattle.std.specs.Prelude.{reverse}
use Rattle.refcount_insert.specs.Detours.{AreWays}
use Rattle.refcount_insert.proofs.detours.alone.Given as goal

abbrev pub invariant-loop-counts : goal.invariant-loop-counts
invariant-loop-counts l = record {
  ways : AreWays (reverse l.initial.detours.items) (reverse l.detours.items) l.all l.entries.items;
  size : length l.entries.items ≡ l.counts-index;
}
