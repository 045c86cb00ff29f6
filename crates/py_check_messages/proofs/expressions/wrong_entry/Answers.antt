use Rattle.std.proofs.Common.{◌∙◌, append_assoc}
use Rattle.py_check_messages.specs.Messages.{wrong_entry}
use Rattle.py_check_messages.proofs.SayLemmas.{said}
use Rattle.py_check_messages.proofs.expressions.wrong_entry.Goals as goal

pub returns : goal.returns
unfolding wrong_entry
returns c = said _ _ _ _ _ _ _ c.say.ensures (c.in_ok-text.ensures.ok ∙ simp (append_assoc, c.in_ok-found.ensures, c.in_ok-wanted.ensures))
