use Rattle.refcount_insert_order_laws.proofs.Whole as proof
use Rattle.refcount_insert_order_laws.proofs.laws.counted_is_placed.Goals as goal

pub returns : goal.returns
returns c = proof.counted_is_placed
