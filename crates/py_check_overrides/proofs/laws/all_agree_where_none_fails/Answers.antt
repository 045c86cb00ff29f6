use Rattle.py_check_overrides.proofs.LawLemmas.{all_agree}
use Rattle.py_check_overrides.proofs.laws.all_agree_where_none_fails.Goals as goal

pub returns : goal.returns
returns c = all_agree
