use Rattle.refcount_insert_order_laws.proofs.Whole as proof
use Rattle.refcount_insert_order_laws.proofs.laws.callers_are_owned.Goals as goal

pub returns : goal.returns
returns c = proof.callers_are_owned
