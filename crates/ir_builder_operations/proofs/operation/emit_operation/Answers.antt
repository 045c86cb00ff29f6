use Rattle.ir_builder_operations.proofs.Common.{inl, Reg, ok_map}
use Rattle.ir_builder_operations.proofs.OperationLemmas.{operation_attempts, operation_answers}
use Rattle.ir_builder_operations.proofs.operation.emit_operation.Goals as goal

pub primitive-requires-2 : goal.primitive-requires-2
primitive-requires-2 c = record { fits = inl (operation_answers c.args.op c.args.operands.now _ _ _ c.result_type.ensures c.primitive.ensures c.in_ok-args.ensures _ c.requires.operands) }

pub returns-clause-made : goal.returns-clause-made
returns-clause-made c = ok_map _ _ _ (λ (r : Reg) a. operation_attempts c.args.op c.args.operands.now _ _ _ c.result_type.ensures c.primitive.ensures c.in_ok-args.ensures _ _ r.0 c.requires.known c.requires.operands a) c.primitive-2.ensures.added
