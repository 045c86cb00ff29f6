use Rattle.std.proofs.Common.{refl, length}
use Rattle.std.proofs.lemmas.Option.{slice_get_read}
use Rattle.refcount_insert.proofs.DetourSteps.{alone_step, one_longer}
use Rattle.refcount_insert.proofs.detours.alone.Goals as goal

pub loop-counts-preserved : goal.loop-counts-preserved
loop-counts-preserved c =
    let there = slice_get_read c.args.all.now (length c.args.all.now) c.loop-counts.counts-index c.counts-item.result refl c.loop-counts-test.true c.counts-item.is in
    record {
      ways = alone_step _ _ _ c.args.all.now c.loop-counts.counts-index c.loop-counts.entries.items _ c.counts-item.result _ _ there c.loop-counts.invariant.size c.in_ok-own.ensures c.loop-counts.invariant.ways c.in_ok-entry.ensures c.in_ok-push.ensures.items;
      size = one_longer c.loop-counts.entries.items _ _ c.loop-counts.counts-index c.in_ok-push.ensures.items c.loop-counts.invariant.size;
    }
