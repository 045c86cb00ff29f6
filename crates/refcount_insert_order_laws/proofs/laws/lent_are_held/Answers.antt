use Rattle.refcount_insert_order_laws.proofs.Whole as proof
use Rattle.refcount_insert_order_laws.proofs.laws.lent_are_held.Goals as goal

pub returns : goal.returns
returns c = proof.lent_are_held
