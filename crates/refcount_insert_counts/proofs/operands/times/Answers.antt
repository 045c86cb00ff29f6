use Rattle.std.proofs.Common.{arith}
use Rattle.refcount_insert_counts.proofs.Times.{times_step}
use Rattle.refcount_insert_counts.proofs.operands.times.Goals as goal

pub loop-s-preserved : goal.loop-s-preserved
loop-s-preserved c = record {
  value = times_step c.args.registers.now c.loop-s.s-index c.args.r c.loop-s.count c.once-count.result c.loop-s-test.true c.loop-s.invariant.value c.once-count.ensures.value;
  few = omega arith;
}
