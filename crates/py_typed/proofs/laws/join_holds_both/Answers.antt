use Rattle.py_typed.proofs.FitLemmas.{join_holds}
use Rattle.py_typed.proofs.laws.join_holds_both.Goals as goal

pub returns : goal.returns
returns c = join_holds
