use Rattle.std.proofs.Common.{refl, length}
use Rattle.std.proofs.lemmas.Option.{slice_get_read}
use Rattle.refcount_insert.proofs.DetourSteps.{fronts_step}
use Rattle.refcount_insert.proofs.detours.fronts_of.Goals as goal

pub loop-counts-preserved : goal.loop-counts-preserved
loop-counts-preserved c =
    let there = slice_get_read c.args.all.now (length c.args.all.now) c.loop-counts.counts-index c.counts-item.result refl c.loop-counts-test.true c.counts-item.is in
    fronts_step c.args.all.now c.loop-counts.counts-index c.counts-item.result c.as_slice.result.now c.in_ok-front_of.field-0 c.loop-counts.fronts.items c.push.new.self.items there c.as_slice.ensures c.loop-counts.invariant c.in_ok-front_of.ensures c.in_ok-push.ensures.items
