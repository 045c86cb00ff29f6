use Rattle.py_check_laws.proofs.LessKnown.{less_for_in}
use Rattle.py_check_laws.proofs.laws.the_body_of_a_for_knows_no_more.Goals as goal

pub returns : goal.returns
returns c = λ C r around k span target e body m locals init result sc D we bare targets over item h is ts g known w. less_for_in C r around k span target e body m locals init result sc D we bare targets over item h is ts g known w
