use Rattle.ir_builder_operations.proofs.Common.{refl, sym, ◌∙◌, sort, Reg, ok_map}
use Rattle.ir_builder_operations.proofs.BoxLemmas.{unboxing_attempts, unboxing_stays}
use Rattle.ir_builder_operations.proofs.boxes.emit_unboxed.Goals as goal

pub emit_operation-requires : goal.emit_operation-requires
emit_operation-requires c = record { known = refl; operands = (c.requires.value, tt) }

pub returns-in-Some-clause-made : goal.returns-in-Some-clause-made
returns-in-Some-clause-made c = ok_map _ _ _ (λ (r : Reg) a. unboxing_attempts (sort c.args.t.now) c.in-Some.unboxed (sym c.unboxed.ensures ∙ c.in-Some.is) _ _ r c.args.x a) c.emit_operation.ensures.made

pub returns-in-None-clause-made : goal.returns-in-None-clause-made
returns-in-None-clause-made c = unboxing_stays (sort c.args.t.now) _ c.args.x (sym c.unboxed.ensures ∙ c.in-None.is) c.requires.value
