use Rattle.py_check_laws.proofs.Stand.{stands_in}
use Rattle.py_check_laws.proofs.laws.what_is_typed_in_a_block_is_well_typed.Goals as goal

pub returns : goal.returns
returns c = λ C r around k body m locals init result sc is D ws pl ts g known w. stands_in C r around k body m locals init result sc is D ws pl ts g known w
