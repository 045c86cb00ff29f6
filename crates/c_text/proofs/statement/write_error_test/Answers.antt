use Rattle.c_text.proofs.Writing.{same_text, then, failed, error_test_written}
use Rattle.c_text.proofs.statement.write_error_test.Goals as goal

pub returns-in_err-write_words : goal.returns-in_err-write_words
returns-in_err-write_words g c =
    same_text (error_test_written _ (c.variable_words-tested.ensures.before _) c.error_word-error.ensures _) (failed _ _ c.from_residual.ensures.0 c.in_err-write_words.ensures)

pub returns : goal.returns
returns g c =
    same_text (error_test_written _ (c.variable_words-tested.ensures.before _) c.error_word-error.ensures _) (then c.in_ok-write_words.ensures c.write_branches.ensures)
