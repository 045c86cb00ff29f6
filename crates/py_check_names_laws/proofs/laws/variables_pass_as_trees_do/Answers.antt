use Rattle.py_check_names_laws.proofs.Names.{variables_pass}
use Rattle.py_check_names_laws.proofs.laws.variables_pass_as_trees_do.Goals as goal

pub returns : goal.returns
returns c = variables_pass
