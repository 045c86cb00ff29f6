use Rattle.ir_builder_loops_and_jumps.proofs.Common.{sort, on_ok_map}
use Rattle.ir_builder_loops_and_jumps.proofs.PrintLemmas.{value_written}
use Rattle.ir_builder_loops_and_jumps.proofs.printing.emit_value.Goals as goal

pub returns-clause-writes : goal.returns-clause-writes
returns-clause-writes c = on_ok_map _ _ _ (value_written (sort c.args.t.now) _ _ _ c.args.x.0 c.in_ok-r.r c.in_ok-r.ensures.made) c.emit_write.ensures.pushed
