use Rattle.ir_builder_frames.specs.Lines.{OwnLines}
use Rattle.ir_builder_loops_and_jumps.proofs.Common.{Extends, map, type_of, typed_expr}
use Rattle.ir_builder_loops_and_jumps.specs.Printing.{Writes, first_texts}
use Rattle.ir_builder_loops_and_jumps.proofs.printing.emit_print.Given as goal

-- so many values were written
abbrev pub invariant-loop-i : goal.invariant-loop-i
invariant-loop-i l = record {
  kept : Extends l.fn.b l.b;
  writes : Writes (map type_of (map typed_expr l.values)) l.regs l.fn.b l.b (first_texts l.i);
  lined : OwnLines l.line l.fn.b l.b;
}
