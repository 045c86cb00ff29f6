use Rattle.refcount_insert_lines_laws.proofs.Returns as proof
use Rattle.refcount_insert_lines_laws.proofs.laws.ends_do.Goals as goal

pub returns : goal.returns
returns c = proof.ends_do
