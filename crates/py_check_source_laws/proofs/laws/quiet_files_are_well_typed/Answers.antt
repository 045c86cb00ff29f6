use Rattle.py_check_source_laws.proofs.Files.{quiet_file_is_well_typed}
use Rattle.py_check_source_laws.proofs.laws.quiet_files_are_well_typed.Goals as goal

pub returns : goal.returns
returns c = quiet_file_is_well_typed
