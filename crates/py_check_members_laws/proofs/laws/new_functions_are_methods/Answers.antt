use Rattle.py_check_members_laws.proofs.Members.{new_functions_are_methods}
use Rattle.py_check_members_laws.proofs.laws.new_functions_are_methods.Goals as goal

pub returns : goal.returns
returns c = new_functions_are_methods
