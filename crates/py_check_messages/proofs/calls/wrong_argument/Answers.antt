use Rattle.std.proofs.Common.{◌∙◌, append_assoc}
use Rattle.py_check_messages.specs.Messages.{wrong_argument}
use Rattle.py_check_messages.proofs.SayLemmas.{said}
use Rattle.py_check_messages.proofs.calls.wrong_argument.Goals as goal

pub returns : goal.returns
unfolding wrong_argument
returns c = said _ _ _ _ _ _ _ c.say.ensures (c.in_ok-text.ensures.ok ∙ simp (append_assoc, c.in_ok-s.ensures))
