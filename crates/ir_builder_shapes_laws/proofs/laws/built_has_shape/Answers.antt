use Rattle.ir_builder_shapes_laws.proofs.Whole as proof
use Rattle.ir_builder_shapes_laws.proofs.laws.built_has_shape.Goals as goal

pub returns : goal.returns
returns c = proof.built_has_shape
