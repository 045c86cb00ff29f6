use Rattle.refcount_insert_lines_laws.proofs.Operations as proof
use Rattle.refcount_insert_lines_laws.proofs.laws.ops_do.Goals as goal

pub returns : goal.returns
returns c = proof.ops_do
