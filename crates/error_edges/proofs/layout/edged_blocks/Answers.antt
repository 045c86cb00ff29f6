use Rattle.std.proofs.Common.{◌∙◌, ◌++◌, [], ap, length}
use Rattle.ir_core.specs.Items.{handler_of}
use Rattle.ir_core.proofs.MissingLemmas.{edges_count}
use Rattle.error_edges.specs.Layout.{number_at, moved, target_of, cut, flag_register}
use Rattle.error_edges.proofs.LayoutLemmas.{chains_more, edges_first, edges_rest}
use Rattle.error_edges.proofs.layout.edged_blocks.Goals as goal

pub lay_block-requires : goal.lay_block-requires
lay_block-requires c =
    let all = c.args.blocks in
    let regs = c.args.regs.now in
    let edges = c.args.plan.now.edges.items in
    let first = edges_first regs all edges c.loop-block.k c.loop-block.block-iterator.rest.items c.next.new.self.rest.items c.in-Some.block c.loop-block.invariant.edges c.in-Some.ensures.steps.0 c.index.result.now c.index.ensures in
    ap length (c.as_slice.ensures ∙ first) ∙ edges_count regs all c.in-Some.block.ops c.in-Some.block.last

pub loop-block-preserved : goal.loop-block-preserved
loop-block-preserved c =
    let all = c.args.blocks in
    let regs = c.args.regs.now in
    let edges = c.args.plan.now.edges.items in
    let start = number_at c.args.plan.now.starts.items c.args.plan.now.exit in
    let exit = c.args.plan.now.exit in
    let b = c.in-Some.block in
    let old = c.loop-block.edged.items in
    let first = edges_first regs all edges c.loop-block.k c.loop-block.block-iterator.rest.items c.next.new.self.rest.items b c.loop-block.invariant.edges c.in-Some.ensures.steps.0 c.index.result.now c.index.ensures in
    record {
      can_next = tt;
      is_finite = tt;
      edges = edges_rest regs all edges c.loop-block.k c.loop-block.block-iterator.rest.items c.next.new.self.rest.items b c.loop-block.invariant.edges c.in-Some.ensures.steps.0;
      blocks = chains_more regs all start exit b c.next.new.self.rest.items c.loop-block.block-iterator.rest.items old c.lay_block.new.blocks.items _
          c.in-Some.ensures.steps.0
          (c.in_ok-lay_block.ensures ∙ ap (λ es. old ++ cut (target_of start exit (handler_of b)) (flag_register regs) b.ops es (moved start b.last) (length old) []) (c.as_slice.ensures ∙ first))
          c.loop-block.invariant.blocks;
    }
