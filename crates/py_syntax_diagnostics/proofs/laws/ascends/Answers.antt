use Rattle.py_syntax_diagnostics.proofs.OrderLemmas.{ascending}
use Rattle.py_syntax_diagnostics.proofs.laws.ascends.Goals as goal

pub returns : goal.returns
returns c = ascending
