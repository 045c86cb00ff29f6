use Rattle.std.proofs.Common.{◌∙◌, ap, subst, arith, length}
use Rattle.refcount_insert.specs.Detours.{AreFronts}
use Rattle.refcount_insert.specs.Layout.{numbers_from, number_at, all_laid}
use Rattle.refcount_insert.proofs.Laying.{planned_size}
use Rattle.refcount_insert.proofs.FrontLemmas.{fronts_size}
use Rattle.refcount_insert.proofs.functions.counted_blocks.Goals as goal

pub laid_out-requires : goal.laid_out-requires
laid_out-requires c =
    let plan = c.in_ok-plan.ensures.planned in
    omega (arith, planned_size plan.0 c.args.f.now.regs c.in_ok-plan.plan.kept.items 0 c.args.f.now.blocks c.in_ok-plan.plan.blocks.items plan.2, fronts_size _ _ c.in_ok-fronts.ensures, c.in_ok-plan.ensures.size, ap length c.deref.ensures.value, ap length c.deref-2.ensures.value)

pub returns-clause-laid : goal.returns-clause-laid
returns-clause-laid c =
    let plan = c.in_ok-plan.ensures.planned in
    let whole = c.in_ok-plan.plan in (
      plan.0,
      plan.1,
      record {
        kept = whole.kept.items;
        fronts = c.in_ok-fronts.fronts.items;
        planned = whole.blocks.items;
        plan = plan.2;
        proper = plan.3;
        size = c.in_ok-plan.ensures.size;
        are_fronts = subst (λ z. AreFronts z c.in_ok-fronts.fronts.items) c.deref.ensures.value c.in_ok-fronts.ensures;
        laid = c.in_ok-blocks.ensures ∙ ap (λ z. all_laid (number_at (numbers_from 0 z)) z 0 z whole.blocks.items) c.deref-2.ensures.value;
      },
    )
