use Rattle.py_typed.proofs.ClassLemmas.{under_by_bases}
use Rattle.py_typed.proofs.laws.under_by_bases.Goals as goal

pub returns : goal.returns
returns c = under_by_bases
