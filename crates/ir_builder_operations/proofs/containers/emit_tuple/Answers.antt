use Rattle.ir_builder_operations.proofs.Common.{inl, Reg, ok_map}
use Rattle.ir_builder_operations.proofs.ContainerLemmas.{tuple_attempts, tuple_answers}
use Rattle.ir_builder_operations.proofs.containers.emit_tuple.Goals as goal

pub primitive-requires : goal.primitive-requires
primitive-requires c = record { fits = inl (tuple_answers _ c.args.parts.now _ c.in_ok-args.ensures c.requires.some c.requires.few c.requires.parts) }

pub returns-clause-made : goal.returns-clause-made
returns-clause-made c = ok_map _ _ _ (λ (r : Reg) a. tuple_attempts _ _ r.0 c.args.parts.now _ c.in_ok-args.ensures c.requires.some c.requires.few c.requires.parts a) c.primitive.ensures.added
