use Rattle.py_check_expressions.proofs.Quiet.{quiet_typing}
use Rattle.py_check_expressions.proofs.laws.what_is_typed_has_said_nothing.Goals as goal

pub returns : goal.returns
returns c = λ C V w known e t h. (quiet_typing C V w known e).says t h
