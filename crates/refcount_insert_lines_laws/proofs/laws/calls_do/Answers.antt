use Rattle.refcount_insert_lines_laws.proofs.Calls as proof
use Rattle.refcount_insert_lines_laws.proofs.laws.calls_do.Goals as goal

pub returns : goal.returns
returns c = proof.calls_do
