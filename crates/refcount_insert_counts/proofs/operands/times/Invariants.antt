use Rattle.std.proofs.Common.{◌≡◌, ◌≤◌, take}
use Rattle.c_core.specs.Cells.{times}
use Rattle.refcount_insert_counts.proofs.operands.times.Given as goal

abbrev pub invariant-loop-s : goal.invariant-loop-s
invariant-loop-s l = record {
  value : l.count ≡ times (take l.s-index l.registers) l.r;
  few : l.count ≤ l.s-index;
}
