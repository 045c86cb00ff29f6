use Rattle.std.proofs.Common.{refl}
use Rattle.c_text.proofs.Writing.{same_text, then, failed, head_is_written}
use Rattle.c_text.proofs.writer.write_head.Goals as goal

pub returns-in_err-write_words : goal.returns-in_err-write_words
returns-in_err-write_words g c =
    same_text (head_is_written c.kind_word-kind.ensures c.name_word-name.ensures refl) (failed _ _ c.from_residual.ensures.0 c.in_err-write_words.ensures)

pub returns-in_err-write_parameters : goal.returns-in_err-write_parameters
returns-in_err-write_parameters g c =
    same_text (head_is_written c.kind_word-kind.ensures c.name_word-name.ensures c.parameters.ensures)
    (then c.in_ok-write_words.ensures (failed _ _ c.from_residual-in_err-write_parameters.ensures.0 c.in_err-write_parameters.ensures))

pub returns : goal.returns
returns g c =
    same_text (head_is_written c.kind_word-kind.ensures c.name_word-name.ensures c.parameters.ensures)
    (then c.in_ok-write_words.ensures (then c.in_ok-write_parameters.ensures c.write_word.ensures))
