use Rattle.py_check_laws.proofs.Firsts.{assignments_give}
use Rattle.py_check_laws.proofs.laws.first_assignments_give_types.Goals as goal

pub returns : goal.returns
returns c = λ C k body more span target e x scope v free absent n. assignments_give C k body more span target e x scope v free absent n
