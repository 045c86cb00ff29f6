use Rattle.std.proofs.Common.{arith}
use Rattle.error_edges.proofs.Numbers.{starts_done}
use Rattle.error_edges.proofs.plan.plan_of.Goals as goal

pub returns-clause-starts : goal.returns-clause-starts
returns-clause-starts c =
    starts_done c.args.regs.now c.args.blocks.now c.loop-block.starts.items c.loop-block.exit c.loop-block.block-index (omega arith)
    c.loop-block.invariant.starts c.loop-block.invariant.exit
