use Rattle.ir_builder_operations.proofs.Common.{sym, ◌∙◌, sort, Reg, ok_map}
use Rattle.ir_builder_operations.proofs.CoercionLemmas.{coercion_ready, coercion_attempts, coercion_stays}
use Rattle.ir_builder_operations.proofs.coercions.emit_coercion.Goals as goal

pub emit_operation-requires : goal.emit_operation-requires
emit_operation-requires c =
    let h = coercion_ready (sort c.args.from.now) (sort c.args.to.now) c.in-Some.op (sym c.operation_between.ensures ∙ c.in-Some.is) c.args.b.now.regs c.args.x c.requires.value in
    record { known = h.0; operands = h.1 }

pub returns-in-Some-clause-made : goal.returns-in-Some-clause-made
returns-in-Some-clause-made c = ok_map _ _ _ (λ (r : Reg) a. coercion_attempts (sort c.args.from.now) (sort c.args.to.now) c.in-Some.op (sym c.operation_between.ensures ∙ c.in-Some.is) _ _ r.0 c.args.x a) c.emit_operation.ensures.made

pub returns-in-None-clause-made : goal.returns-in-None-clause-made
returns-in-None-clause-made c = coercion_stays (sort c.args.from.now) (sort c.args.to.now) _ _ c.requires.numeric c.requires.whole (sym c.operation_between.ensures ∙ c.in-None.is) c.requires.value
