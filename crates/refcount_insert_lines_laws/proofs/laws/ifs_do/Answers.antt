use Rattle.refcount_insert_lines_laws.proofs.Tests as proof
use Rattle.refcount_insert_lines_laws.proofs.laws.ifs_do.Goals as goal

pub returns : goal.returns
returns c = proof.ifs_do
