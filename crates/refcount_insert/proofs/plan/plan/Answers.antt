use Rattle.std.proofs.Common.{◌≡◌, ◌+◌, ◌∙◌, [], refl, sym, ap, subst, take, length, arith}
use Rattle.std.specs.Vec.{with_items}
use Rattle.std.proofs.lemmas.List.{with_items_is}
use Rattle.std.proofs.lemmas.Option.{slice_get_read}
use Rattle.refcount_insert.specs.Sharing.{Keeps, AreProper}
use Rattle.refcount_insert.specs.Plan.{ArePlanned}
use Rattle.refcount_insert.proofs.Laying.{planned_step, last_fits_at}
use Rattle.refcount_insert.proofs.SharingSteps.{none_proper, none_size}
use Rattle.refcount_insert.proofs.plan.plan.Goals as goal

pub loop-b-init : goal.loop-b-init
loop-b-init c = record {
  planned = subst (ArePlanned c.args.known.now c.args.regs.now c.in_ok-kept.kept.items 0 []) (sym c.new-all.ensures.items) tt;
  proper = none_proper c.args.known.now c.args.regs.now _ _ c.in_ok-kept.ensures;
  size = none_size _ _ c.in_ok-kept.ensures;
}

pub planned_block-requires-clause-fits : goal.planned_block-requires-clause-fits
planned_block-requires-clause-fits c =
    last_fits_at _ _ c.args.blocks.now c.requires (ap length c.deref_mut.ensures.value ∙ c.loop-b.invariant.size) c.loop-b.b c.index-blocks-b.result (slice_get_read c.args.blocks.now (length c.args.blocks.now) c.loop-b.b c.index-blocks-b.result refl c.loop-b-test.true c.index-blocks-b.is)

pub loop-b-preserved : goal.loop-b-preserved
loop-b-preserved c =
    let made = c.in_ok-planned.ensures in
    let known = c.args.known.now in
    let regs = c.args.regs.now in
    let kept = c.planned_block.new.kept in
    let there = slice_get_read c.args.blocks.now (length c.args.blocks.now) c.loop-b.b c.index-blocks-b.result refl c.loop-b-test.true c.index-blocks-b.is in
    let same : (with_items c.loop-b.kept kept).items ≡ kept = with_items_is c.loop-b.kept kept (omega (arith, made.keeps.0, c.deref_mut.ensures.len)) in
    let keeps : Keeps c.loop-b.kept.items kept = subst (λ z. Keeps z kept) c.deref_mut.ensures.value made.keeps in
    record {
      planned = subst (λ z. ArePlanned known regs z 0 (take (c.loop-b.b + 1) c.args.blocks.now) c.push.new.self.items) (sym same) (planned_step known regs c.loop-b.kept.items kept keeps c.args.blocks.now c.loop-b.b c.index-blocks-b.result c.in_ok-planned.planned c.loop-b.all.items c.push.new.self.items there c.loop-b.invariant.planned made.planned c.in_ok-push.ensures.items);
      proper = subst (AreProper known regs) (sym same) made.proper;
      size = ap length same ∙ (keeps.0 ∙ c.loop-b.invariant.size);
    }
