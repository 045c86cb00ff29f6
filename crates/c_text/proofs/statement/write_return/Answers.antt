use Rattle.std.proofs.Common.{◌++◌, ap}
use Rattle.std.specs.Prelude.{codes}
use Rattle.c_text.proofs.Writing.{same_text}
use Rattle.c_text.proofs.statement.write_return.Goals as goal

pub returns : goal.returns
returns g c = same_text (ap (λ t. codes "return " ++ t) c.variable_words-value.ensures.whole) c.write_words.ensures
