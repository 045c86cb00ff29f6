use Rattle.py_check_expressions_laws.proofs.Bare.{less_typing}
use Rattle.py_check_expressions_laws.proofs.laws.bare_tests_tell_no_more.Goals as goal

pub returns : goal.returns
returns c = λ C V w known e t h q b. (less_typing C V w known e h).each t q b
