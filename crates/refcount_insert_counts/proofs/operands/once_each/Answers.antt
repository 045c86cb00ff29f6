use Rattle.std.proofs.Common.{◌∙◌, ap, get_or}
use Rattle.liveness.specs.Paths.{is_among}
use Rattle.refcount_insert_counts.proofs.Times.{touched_first, touched_step}
use Rattle.refcount_insert_counts.proofs.operands.once_each.Goals as goal

pub loop-r-init : goal.loop-r-init
loop-r-init c = touched_first c.args.target c.in_ok-all.all.items c.in_ok-all.ensures

pub loop-r-preserved : goal.loop-r-preserved
loop-r-preserved c =
    touched_step c.args.target c.args.reads.now c.loop-r.all.items c.push_new.new.all.items c.loop-r.r-index c.stands_in-is_there.result c.loop-r-test.true (c.stands_in-is_there.ensures ∙ ap (λ z. is_among z (get_or c.args.reads.now c.loop-r.r-index 0)) c.deref.ensures.value) c.in_ok-push_new.ensures c.loop-r.invariant
