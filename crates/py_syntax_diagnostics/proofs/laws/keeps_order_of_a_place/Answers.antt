use Rattle.py_syntax_diagnostics.proofs.OrderLemmas.{in_order_of_a_place}
use Rattle.py_syntax_diagnostics.proofs.laws.keeps_order_of_a_place.Goals as goal

pub returns : goal.returns
returns c = in_order_of_a_place
