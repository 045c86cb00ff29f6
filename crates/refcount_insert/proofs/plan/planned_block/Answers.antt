use Rattle.std.proofs.Common.{length}
use Rattle.refcount_insert.proofs.SharingSteps.{still_proper}
use Rattle.refcount_insert.proofs.plan.planned_block.Goals as goal

pub returns-clause-proper : goal.returns-clause-proper
returns-clause-proper c =
    let k = c.args.block.now in
    still_proper c.args.known.now c.args.regs.now c.args.kept.now c.shared_edges.new.kept (length c.args.kept.now) c.args.b c.len.result k.ops k.last c.in_ok-counts.counts c.requires.fits c.in_ok-counts.ensures c.in_ok-first.ensures.adds c.requires.proper
