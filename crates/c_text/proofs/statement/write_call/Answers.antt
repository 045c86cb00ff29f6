use Rattle.c_text.proofs.Writing.{same_text, then, failed, call_written}
use Rattle.c_text.proofs.statement.write_call.Goals as goal

pub returns-in_err-write_words : goal.returns-in_err-write_words
returns-in_err-write_words g c =
    same_text (call_written _ (c.target_words-target.ensures _) c.name_word-name.ensures _)
    (failed _ _ c.from_residual.ensures.0 c.in_err-write_words.ensures)

pub returns-in_err-write_arguments : goal.returns-in_err-write_arguments
returns-in_err-write_arguments g c =
    same_text (call_written _ (c.target_words-target.ensures _) c.name_word-name.ensures _)
    (then c.in_ok-write_words.ensures (failed _ _ c.from_residual-in_err-write_arguments.ensures.0 c.in_err-write_arguments.ensures))

pub returns : goal.returns
returns g c =
    same_text (call_written _ (c.target_words-target.ensures _) c.name_word-name.ensures _)
    (then c.in_ok-write_words.ensures (then c.in_ok-write_arguments.ensures c.write_word.ensures))
