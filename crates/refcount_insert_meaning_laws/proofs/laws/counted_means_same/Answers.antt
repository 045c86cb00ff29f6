use Rattle.refcount_insert_meaning_laws.proofs.Whole as proof
use Rattle.refcount_insert_meaning_laws.proofs.laws.counted_means_same.Goals as goal

pub returns : goal.returns
returns c = proof.counted_means_same
