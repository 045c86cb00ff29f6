use Rattle.py_syntax_diagnostics.proofs.OrderLemmas.{all_kept}
use Rattle.py_syntax_diagnostics.proofs.laws.keeps_all.Goals as goal

pub returns : goal.returns
returns c = all_kept
