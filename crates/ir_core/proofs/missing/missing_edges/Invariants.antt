use Rattle.std.proofs.Common.{drop, ◌≡◌, ◌++◌}
use Rattle.ir_core.specs.Missing.{edges_in}
use Rattle.ir_core.proofs.missing.missing_edges.Given as goal

abbrev pub invariant-loop-i : goal.invariant-loop-i
invariant-loop-i l =
    l.edges.items ++ edges_in l.regs l.blocks (drop l.i l.ops) l.block.last ≡ edges_in l.regs l.blocks l.ops l.block.last
