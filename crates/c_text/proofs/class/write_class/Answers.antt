use Rattle.c_text.proofs.ClassLines.{class_is_written}
use Rattle.c_text.proofs.Writing.{same_text, then, failed}
use Rattle.c_text.proofs.class.write_class.Goals as goal

pub returns-in_err-write_words : goal.returns-in_err-write_words
returns-in_err-write_words g c =
    same_text (class_is_written c.args.class.now c.name_word-name.ensures) (failed _ _ c.from_residual.ensures.0 c.in_err-write_words.ensures)

pub returns-in_err-write_quoted : goal.returns-in_err-write_quoted
returns-in_err-write_quoted g c =
    same_text (class_is_written c.args.class.now c.name_word-name.ensures)
    (then c.in_ok-write_words.ensures (failed _ _ c.from_residual-in_err-write_quoted.ensures.0 c.in_err-write_quoted.ensures))

pub returns : goal.returns
returns g c =
    same_text (class_is_written c.args.class.now c.name_word-name.ensures)
    (then c.in_ok-write_words.ensures (then c.in_ok-write_quoted.ensures c.write_lists.ensures))
