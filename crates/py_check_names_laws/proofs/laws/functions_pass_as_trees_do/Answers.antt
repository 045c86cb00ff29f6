use Rattle.py_check_names_laws.proofs.Names.{functions_pass}
use Rattle.py_check_names_laws.proofs.laws.functions_pass_as_trees_do.Goals as goal

pub returns : goal.returns
returns c = functions_pass
