use Rattle.std.proofs.Common.{refl, length}
use Rattle.std.proofs.lemmas.Option.{slice_get_read}
use Rattle.refcount_insert_counts.specs.Known.{owned_at}
use Rattle.refcount_insert.proofs.Laying.{counted_step}
use Rattle.refcount_insert.proofs.plan.counted_ops.Goals as goal

pub loop-p-preserved : goal.loop-p-preserved
loop-p-preserved c =
    let laid = c.in_ok-lay_group.ensures in
    counted_step c.args.known.now c.args.regs.now (owned_at c.args.known.now c.args.regs.now c.args.b) c.args.ops.now c.loop-p.p c.index-ops-p.result c.loop-p.done.items c.lay_group.new.done.items laid.0 (slice_get_read c.args.ops.now (length c.args.ops.now) c.loop-p.p c.index-ops-p.result refl c.loop-p-test.true c.index-ops-p.is) c.loop-p.invariant laid.1 laid.2
