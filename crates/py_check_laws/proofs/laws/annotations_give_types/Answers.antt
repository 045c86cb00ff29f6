use Rattle.py_check_laws.proofs.Firsts.{annotations_give}
use Rattle.py_check_laws.proofs.laws.annotations_give_types.Goals as goal

pub returns : goal.returns
returns c = λ m i x mark at first. annotations_give m i x mark at first
