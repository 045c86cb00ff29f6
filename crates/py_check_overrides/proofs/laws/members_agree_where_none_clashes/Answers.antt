use Rattle.py_check_overrides.proofs.MemberLemmas.{members_fit}
use Rattle.py_check_overrides.proofs.laws.members_agree_where_none_clashes.Goals as goal

pub returns : goal.returns
returns c = members_fit
