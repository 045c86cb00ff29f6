use Rattle.std.proofs.Common.{◌∙◌, append_assoc}
use Rattle.py_check_messages.specs.Messages.{wrong_number}
use Rattle.py_check_messages.proofs.SayLemmas.{said}
use Rattle.py_check_messages.proofs.calls.wrong_number.Goals as goal

pub returns : goal.returns
unfolding wrong_number
returns c = said _ _ _ _ _ _ _ c.say.ensures (c.in_ok-text.ensures.ok ∙ simp append_assoc)
