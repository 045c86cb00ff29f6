use Rattle.std.proofs.Common.{◌≡◌, List, length}
use Rattle.std.specs.Prelude.{reverse}
use Rattle.refcount_insert.specs.declared.sharing.EdgeCounts.{EdgeCounts}
use Rattle.refcount_insert.specs.declared.detours.Detour.{Detour}
use Rattle.refcount_insert.specs.Pairs.{AreParted}
use Rattle.refcount_insert.specs.Detours.{Grows, AreWays}
use Rattle.refcount_insert.proofs.detours.over_commons.Given as goal

abbrev pub invariant-loop-part : goal.invariant-loop-part
invariant-loop-part l = record {
  size : length l.entries.items ≡ l.part-index;
  grows : Grows (reverse l.initial.detours.items) (reverse l.detours.items);
  ways : (old : List Detour) (all shared : List EdgeCounts) → AreParted all l.parts shared → AreWays old (reverse l.initial.detours.items) shared l.commons → length l.commons ≡ length shared → AreWays old (reverse l.detours.items) all l.entries.items;
}
