use Rattle.ir_builder_loops_and_jumps.proofs.Common.{sort, on_ok_map}
use Rattle.ir_builder_loops_and_jumps.proofs.PrintLemmas.{first_item, later_item}
use Rattle.ir_builder_loops_and_jumps.proofs.printing.emit_item.Goals as goal

pub returns-then-i-eq0-clause-writes : goal.returns-then-i-eq0-clause-writes
returns-then-i-eq0-clause-writes c = on_ok_map _ _ _ (first_item (sort c.args.t.now) c.args.x.0 c.args.i _ _ c.if-i-eq0.true) c.emit_value.ensures.writes

pub returns-clause-writes : goal.returns-clause-writes
returns-clause-writes c = on_ok_map _ _ _ (later_item (sort c.args.t.now) c.args.x.0 c.args.i _ _ _ c.if-i-eq0.false c.requires.value c.in_ok-emit_literal.ensures.writes) c.emit_value-2.ensures.writes
