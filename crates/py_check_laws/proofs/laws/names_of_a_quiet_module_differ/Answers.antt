use Rattle.py_check_laws.proofs.NamedHere.{quiet_names}
use Rattle.py_check_laws.proofs.laws.names_of_a_quiet_module_differ.Goals as goal

pub returns : goal.returns
returns c = λ m h. quiet_names m h
