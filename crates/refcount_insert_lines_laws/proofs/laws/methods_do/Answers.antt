use Rattle.refcount_insert_lines_laws.proofs.Methods as proof
use Rattle.refcount_insert_lines_laws.proofs.laws.methods_do.Goals as goal

pub returns : goal.returns
returns c = proof.methods_do
