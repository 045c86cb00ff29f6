use Rattle.std.proofs.Common.{◌∙◌, append_assoc}
use Rattle.py_check_messages.specs.Messages.{invalid_index}
use Rattle.py_check_messages.proofs.SayLemmas.{said}
use Rattle.py_check_messages.proofs.expressions.invalid_index.Goals as goal

pub returns : goal.returns
unfolding invalid_index
returns c = said _ _ _ _ _ _ _ c.say.ensures (c.in_ok-text.ensures.ok ∙ simp (append_assoc, c.in_ok-s.ensures, c.in_ok-t.ensures, c.in_ok-k.ensures))
