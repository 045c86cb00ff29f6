use Rattle.refcount_insert_order_laws.proofs.Whole as proof
use Rattle.refcount_insert_order_laws.proofs.laws.ledgers_are_owned.Goals as goal

pub returns : goal.returns
returns c = proof.ledgers_are_owned
