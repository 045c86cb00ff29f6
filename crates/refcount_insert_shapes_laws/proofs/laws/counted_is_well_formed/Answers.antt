use Rattle.refcount_insert_shapes_laws.proofs.Whole as proof
use Rattle.refcount_insert_shapes_laws.proofs.laws.counted_is_well_formed.Goals as goal

pub returns : goal.returns
returns c = proof.counted_is_well_formed
