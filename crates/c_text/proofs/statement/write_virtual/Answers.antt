use Rattle.c_text.proofs.MethodTexts.{virtual_written}
use Rattle.c_text.proofs.Writing.{same_text, then, failed}
use Rattle.c_text.proofs.statement.write_virtual.Goals as goal

pub returns-in_err-write_words : goal.returns-in_err-write_words
returns-in_err-write_words g c =
    same_text (virtual_written c.args.vars.now c.args.place c.args.object c.args.number c.args.args.now (c.variable_words-target.ensures.before _) c.variable_words-object.ensures.whole)
    (failed _ _ c.from_residual.ensures.0 c.in_err-write_words.ensures)

pub returns-in_err-write_method : goal.returns-in_err-write_method
returns-in_err-write_method g c =
    same_text (virtual_written c.args.vars.now c.args.place c.args.object c.args.number c.args.args.now (c.variable_words-target.ensures.before _) c.variable_words-object.ensures.whole)
    (then c.in_ok-write_words.ensures (failed _ _ c.from_residual-in_err-write_method.ensures.0 c.in_err-write_method.ensures))

pub returns : goal.returns
returns g c =
    same_text (virtual_written c.args.vars.now c.args.place c.args.object c.args.number c.args.args.now (c.variable_words-target.ensures.before _) c.variable_words-object.ensures.whole)
    (then c.in_ok-write_words.ensures (then c.in_ok-write_method.ensures c.write_word.ensures))
