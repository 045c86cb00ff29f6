use Rattle.std.proofs.Common.{◌+◌}
use Rattle.refcount_insert_rule.specs.Rule.{counts_before}
use Rattle.refcount_insert_rule.specs.Counted.{counts_register}
use Rattle.refcount_insert_counts.specs.Known.{owned_at}
use Rattle.refcount_insert_counts.proofs.Times.{each_step}
use Rattle.refcount_insert_counts.proofs.groups.group_ups.Goals as goal

pub loop-r-preserved : goal.loop-r-preserved
loop-r-preserved c =
    each_step (counts_before (counts_register c.args.regs.now) c.args.op.now (owned_at c.args.known.now c.args.regs.now c.args.b c.args.p) (owned_at c.args.known.now c.args.regs.now c.args.b (c.args.p + 1))) c.args.touched.now c.loop-r.r-index c.count_before-count.result c.loop-r.ups.items c.push_ups.new.all.items c.loop-r-test.true c.loop-r.invariant c.count_before-count.ensures c.in_ok-push_ups.ensures
