use Rattle.py_check_expressions_laws.proofs.Loud.{loud_typing}
use Rattle.py_check_expressions_laws.proofs.laws.what_is_not_typed_has_said_why.Goals as goal

pub returns : goal.returns
returns c = λ C V all w known e k h s. (loud_typing C V all w known e k).says h s
