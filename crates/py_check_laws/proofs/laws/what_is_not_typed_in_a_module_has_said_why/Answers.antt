use Rattle.py_check_laws.proofs.Reached.{quiet_module}
use Rattle.py_check_laws.proofs.laws.what_is_not_typed_in_a_module_has_said_why.Goals as goal

pub returns : goal.returns
returns c = λ m h. quiet_module m h
