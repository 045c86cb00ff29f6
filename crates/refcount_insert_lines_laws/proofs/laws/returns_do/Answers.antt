use Rattle.refcount_insert_lines_laws.proofs.Returns as proof
use Rattle.refcount_insert_lines_laws.proofs.laws.returns_do.Goals as goal

pub returns : goal.returns
returns c = proof.returns_do
