use Rattle.py_check_expressions_laws.proofs.Sound.{sound}
use Rattle.py_check_expressions_laws.proofs.laws.what_is_typed_is_well_typed.Goals as goal

pub returns : goal.returns
returns c = λ C V m locals init D w known others e t written asked within got taken. sound C V m locals init D w known e written asked t got others within taken
