use Rattle.std.proofs.Common.{drop, take, map, ◌≡◌, ◌++◌}
use Rattle.std.specs.Prelude.{◌||◌}
use Rattle.std.specs.List.{list_any}
use Rattle.ir_core.specs.Missing.{edges_of}
use Rattle.error_edges.specs.Layout.{asks, leaves, needs_flag, needs_exit}
use Rattle.error_edges.proofs.Numbers.{starts_in, end_in}
use Rattle.error_edges.proofs.plan.plan_of.Given as goal

abbrev pub invariant-loop-block : goal.invariant-loop-block
invariant-loop-block l =
    record {
      starts : l.starts.items ++ starts_in l.regs l.blocks (drop l.block-index l.blocks) l.exit ≡ starts_in l.regs l.blocks l.blocks 0;
      exit : end_in l.regs l.blocks (drop l.block-index l.blocks) l.exit ≡ end_in l.regs l.blocks l.blocks 0;
      edges : l.edges.items ≡ map (edges_of l.regs l.blocks) (take l.block-index l.blocks);
      flag : (l.needs_flag || list_any (asks l.regs l.blocks) (drop l.block-index l.blocks)) ≡ needs_flag l.regs l.blocks;
      leaves : (l.needs_exit || list_any (leaves l.regs l.blocks) (drop l.block-index l.blocks)) ≡ needs_exit l.regs l.blocks;
    }
