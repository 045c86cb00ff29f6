use Rattle.std.proofs.Common.{◌∙◌}
use Rattle.py_check_calls.proofs.CallLemmas.{none_there}
use Rattle.py_check_calls.proofs.callees.is_none.Goals as goal

pub returns : goal.returns
returns c = c.is_empty.ensures ∙ none_there c.args.args.now
