use Rattle.py_typed.proofs.JoinLemmas.{join_symmetric}
use Rattle.py_typed.proofs.laws.join_is_symmetric.Goals as goal

pub returns : goal.returns
returns c = join_symmetric
