use Rattle.py_check_source_laws.proofs.Files.{tree_is_written}
use Rattle.py_check_source_laws.proofs.laws.trees_of_files_are_written.Goals as goal

pub returns : goal.returns
returns c = tree_is_written
