use Rattle.std.proofs.Common.{◌∙◌, append_assoc}
use Rattle.py_check_messages.specs.Messages.{unsupported_operand}
use Rattle.py_check_messages.proofs.SayLemmas.{said}
use Rattle.py_check_messages.proofs.expressions.unsupported_operand.Goals as goal

pub returns : goal.returns
unfolding unsupported_operand
returns c = said _ _ _ _ _ _ _ c.say.ensures (c.in_ok-text.ensures.ok ∙ simp (append_assoc, c.in_ok-s.ensures))
