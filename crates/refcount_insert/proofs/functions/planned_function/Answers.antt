use Rattle.std.proofs.Common.{subst}
use Rattle.refcount_insert.specs.Sharing.{AreProper}
use Rattle.refcount_insert.specs.Plan.{ArePlanned}
use Rattle.refcount_insert.proofs.functions.planned_function.Goals as goal

pub returns-clause-planned : goal.returns-clause-planned
returns-clause-planned c =
    let known = c.in_ok-known.known in
    let plan = c.in_ok-planned.planned in (
      known,
      c.in_ok-known.ensures,
      subst (λ z. ArePlanned known z plan.kept.items 0 c.args.f.now.blocks plan.blocks.items) c.as_slice.ensures (subst (λ z. ArePlanned known c.as_slice.result.now plan.kept.items 0 z plan.blocks.items) c.as_slice-2.ensures c.in_ok-planned.ensures.planned),
      subst (λ z. AreProper known z plan.kept.items) c.as_slice.ensures c.in_ok-planned.ensures.proper,
    )
