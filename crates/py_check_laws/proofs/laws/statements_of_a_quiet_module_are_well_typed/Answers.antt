use Rattle.py_check_laws.proofs.Standing.{quiet_stands}
use Rattle.py_check_laws.proofs.laws.statements_of_a_quiet_module_are_well_typed.Goals as goal

pub returns : goal.returns
returns c = λ m h w. quiet_stands m h w
