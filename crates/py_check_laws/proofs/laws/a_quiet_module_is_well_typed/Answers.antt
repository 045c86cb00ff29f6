use Rattle.py_check_laws.proofs.Complete.{quiet_is_well_typed}
use Rattle.py_check_laws.proofs.laws.a_quiet_module_is_well_typed.Goals as goal

pub returns : goal.returns
returns c = λ is_identifier m h w ns. quiet_is_well_typed is_identifier m h w ns
