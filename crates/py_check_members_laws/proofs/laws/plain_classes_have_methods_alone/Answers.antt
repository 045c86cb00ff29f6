use Rattle.py_check_members_laws.proofs.Members.{plain_classes}
use Rattle.py_check_members_laws.proofs.laws.plain_classes_have_methods_alone.Goals as goal

pub returns : goal.returns
returns c = plain_classes
