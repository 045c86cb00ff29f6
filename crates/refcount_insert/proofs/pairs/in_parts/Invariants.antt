use Rattle.std.proofs.Common.{◌≡◌, ◌≤◌, ◌+◌, ◌-◌, length}
use Rattle.refcount_insert.specs.Pairs.{AreParted}
use Rattle.refcount_insert.proofs.pairs.in_parts.Given as goal

abbrev pub invariant-loop-i : goal.invariant-loop-i
invariant-loop-i l = record {
  are : AreParted l.all l.parts.items l.commons.items;
  size : length l.parts.items ≡ l.i;
  few : length l.commons.items + length l.commons.items ≡ l.i;
  within : l.i ≤ length l.all;
}

abbrev pub decreases-loop-i : goal.decreases-loop-i
decreases-loop-i l = length l.all - l.i
