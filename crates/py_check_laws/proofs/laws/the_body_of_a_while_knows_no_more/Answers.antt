use Rattle.py_check_laws.proofs.LessKnown.{less_while}
use Rattle.py_check_laws.proofs.laws.the_body_of_a_while_knows_no_more.Goals as goal

pub returns : goal.returns
returns c = λ C r around k span e body bare inner t h ts g known w. less_while C r around k span e body bare inner t h ts g known w
