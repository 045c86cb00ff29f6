use Rattle.refcount_insert_order_laws.proofs.Whole as proof
use Rattle.refcount_insert_order_laws.proofs.laws.unmet_are_never_entered.Goals as goal

pub returns : goal.returns
returns c = proof.unmet_are_never_entered
