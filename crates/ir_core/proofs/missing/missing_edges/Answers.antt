use Rattle.ir_core.proofs.MissingLemmas.{edges_more}
use Rattle.ir_core.proofs.missing.missing_edges.Goals as goal

pub loop-i-preserved : goal.loop-i-preserved
loop-i-preserved c =
    edges_more c.args.regs.now c.args.blocks.now c.as_slice-ops.result.now c.args.block.now.last c.loop-i.i c.index-ops-i.result c.missing_edge-edge.result c.end_behind.result c.loop-i.edges.items c.push.new.self.items
    c.loop-i-test.true c.index-ops-i.is c.end_behind.ensures c.missing_edge-edge.ensures c.in_ok-push.ensures.items c.loop-i.invariant
