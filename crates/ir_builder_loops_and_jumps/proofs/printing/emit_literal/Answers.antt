use Rattle.ir_builder_loops_and_jumps.proofs.Common.{on_ok_map}
use Rattle.ir_builder_loops_and_jumps.proofs.PrintLemmas.{text_written}
use Rattle.ir_builder_loops_and_jumps.proofs.printing.emit_literal.Goals as goal

pub returns-clause-writes : goal.returns-clause-writes
returns-clause-writes c = on_ok_map _ _ _ (text_written _ _ _ c.in_ok-r.r c.args.text.now c.in_ok-r.ensures.made) c.emit_write.ensures.pushed
