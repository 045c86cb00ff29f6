use Rattle.std.proofs.Common.{◌≡◌, ◌++◌, drop, map, length}
use Rattle.ir_core.specs.Missing.{edges_of}
use Rattle.error_edges.specs.Layout.{number_at, chains}
use Rattle.error_edges.proofs.layout.edged_blocks.Given as goal

abbrev pub invariant-loop-block : goal.invariant-loop-block
invariant-loop-block l =
    record {
      can_next : (goal.iterator-loop-block).can_next l.block-iterator;
      is_finite : (goal.iterator-loop-block).is_finite l.block-iterator;
      edges : drop l.k l.plan.edges.items ≡ map (edges_of l.regs l.fn.blocks) l.block-iterator.rest.items;
      blocks : l.edged.items ++ chains l.regs l.fn.blocks (number_at l.plan.starts.items l.plan.exit) l.plan.exit l.block-iterator.rest.items (length l.edged.items) ≡ chains l.regs l.fn.blocks (number_at l.plan.starts.items l.plan.exit) l.plan.exit l.fn.blocks 0;
    }
