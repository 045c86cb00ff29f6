use Rattle.py_check_laws.proofs.Firsts.{bindings_give}
use Rattle.py_check_laws.proofs.laws.bindings_give_types.Goals as goal

pub returns : goal.returns
returns c = λ C k body x v there bound. bindings_give C k body x v there bound
