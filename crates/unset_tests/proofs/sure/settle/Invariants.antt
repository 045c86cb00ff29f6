use Rattle.std.proofs.Common.{◌≡◌, length}
use Rattle.unset_tests.proofs.Settling.{IsSettledTo}
use Rattle.unset_tests.proofs.sure.settle.Given as goal

abbrev pub invariant-loop-k : goal.invariant-loop-k
invariant-loop-k l = record {
  size : length l.sure.items ≡ length l.fn.sure.items;
  settled : IsSettledTo l.regs l.blocks l.r l.marks l.fn.sure.items l.sure.items l.k;
}
