use Rattle.std.proofs.Common.{◌≡◌, ◌≤◌, ◌+◌, ℕ, take, length}
use Rattle.c_core.specs.Cells.{times}
use Rattle.refcount_insert.proofs.pairs.split_lists.Given as goal

abbrev pub invariant-loop-x : goal.invariant-loop-x
invariant-loop-x l = record {
  first : (r : ℕ) → times l.common.items r + times l.first.items r ≡ times (take l.x-index l.a) r;
  second : (r : ℕ) → times l.common.items r + times l.second.items r ≡ times (take l.place l.b) r;
  within : l.place ≤ length l.b;
}
