use Rattle.std.proofs.Common.{◌∙◌, ◌++◌, ap}
use Rattle.std.specs.Prelude.{codes}
use Rattle.c_core.specs.Text.{var_text}
use Rattle.c_text.proofs.Writing.{same_text}
use Rattle.c_text.proofs.statement.write_move.Goals as goal

pub returns : goal.returns
returns g c =
    same_text (c.variable_words-target.ensures.before _ ∙ ap (λ t. var_text c.args.vars.now c.args.place ++ (codes " = " ++ t)) c.variable_words-value.ensures.whole)
    c.write_words.ensures
