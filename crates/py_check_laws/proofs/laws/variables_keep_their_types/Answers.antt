use Rattle.py_check_laws.proofs.Firsts.{types_stay}
use Rattle.py_check_laws.proofs.laws.variables_keep_their_types.Goals as goal

pub returns : goal.returns
returns c = λ C k body x h. types_stay C k body x h
