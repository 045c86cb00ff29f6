use Rattle.std.proofs.Common.{◌++◌, ap}
use Rattle.c_core.specs.Text.{comma}
use Rattle.c_text.proofs.Writing.{same_text}
use Rattle.c_text.proofs.statement.write_next_variable.Goals as goal

pub returns : goal.returns
returns g c = same_text (ap (λ t. comma ++ t) c.variable_words-variable.ensures.whole) c.write_words.ensures
