use Rattle.std.proofs.Common.{◌≡◌, length}
use Rattle.unset_tests.proofs.Settling.{AreSettled}
use Rattle.unset_tests.proofs.sure.sure_tests.Given as goal

abbrev pub invariant-loop-r : goal.invariant-loop-r
invariant-loop-r l = record {
  size : length l.sure.items ≡ length l.blocks;
  settled : AreSettled l.regs l.blocks l.sure.items l.r;
}
