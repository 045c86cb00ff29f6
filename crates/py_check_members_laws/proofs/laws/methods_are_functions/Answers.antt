use Rattle.py_check_members_laws.proofs.Members.{methods_are_functions}
use Rattle.py_check_members_laws.proofs.laws.methods_are_functions.Goals as goal

pub returns : goal.returns
returns c = methods_are_functions
