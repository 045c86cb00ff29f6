use Rattle.py_check_members_laws.proofs.Members.{names_differ}
use Rattle.py_check_members_laws.proofs.laws.names_of_members_differ.Goals as goal

pub returns : goal.returns
returns c = names_differ
