use Rattle.py_check_laws.proofs.Others.{other_block}
use Rattle.py_check_laws.proofs.laws.only_bindings_give_types.Goals as goal

pub returns : goal.returns
returns c = λ C k body x scope absent. other_block C x k.types scope k body absent
