use Rattle.std.proofs.Common.{◌≡◌, ◌∙◌, ◌+◌, ap, sym, subst, not, get_or}
use Rattle.liveness.specs.Paths.{write_of, is_target}
use Rattle.refcount_insert_rule.specs.Rule.{counts_after, given_up, AreSure}
use Rattle.refcount_insert_rule.specs.Counted.{counts_register}
use Rattle.refcount_insert_counts.specs.Known.{owned_at}
use Rattle.refcount_insert_counts.proofs.Times.{each_step, given_more, sure_more}
use Rattle.refcount_insert_counts.proofs.groups.group_downs.Goals as goal

pub loop-r-preserved : goal.loop-r-preserved
loop-r-preserved c =
    let x = get_or c.args.touched.now c.loop-r.r-index 0 in
    let sure : not c.is_target-is_sure.result ≡ not (is_target (write_of c.args.op.now) x) =
    ap not (c.is_target-is_sure.ensures ∙ ap (λ z. is_target z x) c.register_written.ensures) in
    record {
      each = each_step (counts_after (counts_register c.args.regs.now) c.args.op.now (owned_at c.args.known.now c.args.regs.now c.args.b c.args.p) (owned_at c.args.known.now c.args.regs.now c.args.b (c.args.p + 1))) c.args.touched.now c.loop-r.r-index c.count_after-count.result (given_up c.loop-r.downs.items) (given_up c.push_downs.new.all.items) c.loop-r-test.true c.loop-r.invariant.each c.count_after-count.ensures (ap given_up c.in_ok-push_downs.ensures ∙ given_more c.loop-r.downs.items c.count_after-count.result x (not c.is_target-is_sure.result));
      sure = subst (AreSure (write_of c.args.op.now)) (sym c.in_ok-push_downs.ensures) (sure_more (write_of c.args.op.now) c.loop-r.downs.items c.count_after-count.result x (not c.is_target-is_sure.result) sure c.loop-r.invariant.sure);
    }
