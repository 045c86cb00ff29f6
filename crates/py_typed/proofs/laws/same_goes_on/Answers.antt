use Rattle.py_typed.proofs.OnwardLemmas.{same_on}
use Rattle.py_typed.proofs.laws.same_goes_on.Goals as goal

pub returns : goal.returns
returns c = same_on
