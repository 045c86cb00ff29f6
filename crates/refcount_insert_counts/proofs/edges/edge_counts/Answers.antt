use Rattle.std.proofs.Common.{◌∙◌, ap, sym, subst, false, get_or}
use Rattle.refcount_insert_rule.specs.Rule.{given_up, AreUnsure}
use Rattle.refcount_insert_counts.specs.Known.{held_at, entered}
use Rattle.refcount_insert_counts.specs.Counts.{short_on, over_on}
use Rattle.refcount_insert_counts.proofs.Times.{each_step, given_more, unsure_more}
use Rattle.refcount_insert_counts.proofs.edges.edge_counts.Goals as goal

pub loop-r-preserved : goal.loop-r-preserved
loop-r-preserved c =
    let x = get_or c.args.all.now c.loop-r.r-index 0 in
    let have = held_at c.args.known.now c.args.regs.now c.args.b c.args.p in
    let want = entered c.args.known.now c.args.regs.now c.args.t in
    record {
      short = each_step (short_on c.args.skip have want) c.args.all.now c.loop-r.r-index c.difference-short.result.0 c.loop-r.ups.items c.push_ups.new.all.items c.loop-r-test.true c.loop-r.invariant.short c.difference-short.ensures.short c.in_ok-push_ups.ensures;
      over = each_step (over_on c.args.skip have want) c.args.all.now c.loop-r.r-index c.difference-short.result.1 (given_up c.loop-r.downs.items) (given_up c.push_downs.new.all.items) c.loop-r-test.true c.loop-r.invariant.over c.difference-short.ensures.over (ap given_up c.in_ok-push_downs.ensures ∙ given_more c.loop-r.downs.items c.difference-short.result.1 x false);
      unsure = subst AreUnsure (sym c.in_ok-push_downs.ensures) (unsure_more c.loop-r.downs.items c.difference-short.result.1 x c.loop-r.invariant.unsure);
    }
