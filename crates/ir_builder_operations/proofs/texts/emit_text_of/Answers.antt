use Rattle.ir_builder_operations.proofs.Common.{sym, ◌∙◌, sort, Reg, ok_map}
use Rattle.ir_builder_operations.proofs.WrittenLemmas.{text_ready, text_attempts, text_stays}
use Rattle.ir_builder_operations.proofs.texts.emit_text_of.Goals as goal

pub emit_operation-requires : goal.emit_operation-requires
emit_operation-requires c =
    let h = text_ready (sort c.args.t.now) c.in-Some.op (sym c.operation_of_text.ensures ∙ c.in-Some.is) c.args.b.now.regs c.args.x c.requires.value in
    record { known = h.0; operands = h.1 }

pub returns-in-Some-clause-made : goal.returns-in-Some-clause-made
returns-in-Some-clause-made c = ok_map _ _ _ (λ (r : Reg) a. text_attempts (sort c.args.t.now) c.in-Some.op (sym c.operation_of_text.ensures ∙ c.in-Some.is) _ _ r.0 c.args.x a) c.emit_operation.ensures.made

pub returns-in-None-clause-made : goal.returns-in-None-clause-made
returns-in-None-clause-made c = text_stays (sort c.args.t.now) _ _ c.requires.written (sym c.operation_of_text.ensures ∙ c.in-None.is) c.requires.value
