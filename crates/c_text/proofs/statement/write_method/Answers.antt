use Rattle.std.proofs.Common.{◌++◌, ap}
use Rattle.c_core.specs.Text.{comma}
use Rattle.c_text.specs.Methods.{others_text}
use Rattle.c_text.proofs.Writing.{same_text, then, failed}
use Rattle.c_text.proofs.statement.write_method.Goals as goal

pub returns-in_err-write_words : goal.returns-in_err-write_words
returns-in_err-write_words g c =
    same_text (ap (λ t. comma ++ (t ++ others_text c.args.vars.now c.args.args.now)) c.number_word-number.ensures)
    (failed _ _ c.from_residual.ensures.0 c.in_err-write_words.ensures)

pub returns : goal.returns
returns g c =
    same_text (ap (λ t. comma ++ (t ++ others_text c.args.vars.now c.args.args.now)) c.number_word-number.ensures)
    (then c.in_ok-write_words.ensures c.write_variables.ensures)
