use Rattle.refcount_insert_source_laws.proofs.Whole as proof
use Rattle.refcount_insert_source_laws.proofs.laws.ordered_follows.Goals as goal

pub returns : goal.returns
returns c = proof.ordered_follows
