use Rattle.py_check_expressions_laws.proofs.Telling.{told_typing}
use Rattle.py_check_expressions_laws.proofs.laws.typed_tests_tell_as_much.Goals as goal

pub returns : goal.returns
returns c = λ C V w known e t h b. (told_typing C V w known e).each t h b
