use Rattle.py_check_laws.proofs.LessKnown.{less_in}
use Rattle.py_check_laws.proofs.laws.what_is_typed_in_a_block_knows_no_more.Goals as goal

pub returns : goal.returns
returns c = λ C r around k body m locals init result sc D ws bare ts g known w. less_in C r around k body m locals init result sc D ws bare ts g known w
