use Rattle.std.proofs.Common.{◌∙◌, append_assoc}
use Rattle.py_check_messages.specs.Messages.{no_attribute}
use Rattle.py_check_messages.proofs.SayLemmas.{said}
use Rattle.py_check_messages.proofs.expressions.no_attribute.Goals as goal

pub returns : goal.returns
unfolding no_attribute
returns c = said _ _ _ _ _ _ _ c.say.ensures (c.in_ok-text.ensures.ok ∙ simp (append_assoc, c.in_ok-s.ensures))
