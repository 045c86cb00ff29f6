use Rattle.refcount_insert_meaning_laws.proofs.Whole as proof
use Rattle.refcount_insert_meaning_laws.proofs.laws.uncounted_is_same.Goals as goal

pub returns : goal.returns
returns c = proof.uncounted_is_same
