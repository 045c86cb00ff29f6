use Rattle.refcount_insert_meaning_laws.proofs.Whole as proof
use Rattle.refcount_insert_meaning_laws.proofs.laws.counted_fits.Goals as goal

pub returns : goal.returns
returns c = proof.counted_fits
