use Rattle.py_check_laws.proofs.LessKnown.{test_less}
use Rattle.py_check_laws.proofs.laws.a_typed_test_knows_no_more.Goals as goal

pub returns : goal.returns
returns c = λ C k e bare t h known w outcome. test_less C k e bare t h known w outcome
