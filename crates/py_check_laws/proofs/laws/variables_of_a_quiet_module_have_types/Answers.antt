use Rattle.py_check_laws.proofs.Reached.{quiet_variables}
use Rattle.py_check_laws.proofs.laws.variables_of_a_quiet_module_have_types.Goals as goal

pub returns : goal.returns
returns c = λ m h. quiet_variables m h
