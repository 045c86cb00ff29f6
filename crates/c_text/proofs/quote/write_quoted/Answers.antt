use Rattle.std.proofs.Common.{append_assoc}
use Rattle.std.specs.Prelude.{codes}
use Rattle.c_text.proofs.Writing.{same_text, then, failed}
use Rattle.c_text.proofs.quote.write_quoted.Goals as goal

pub returns-in_err-write_words : goal.returns-in_err-write_words
returns-in_err-write_words g c =
    same_text (append_assoc _ (codes "\"") _) (failed _ _ c.from_residual.ensures.0 c.in_err-write_words.ensures)

pub returns-in_err-write_bytes : goal.returns-in_err-write_bytes
returns-in_err-write_bytes g c =
    same_text (append_assoc _ (codes "\"") _)
    (then c.in_ok-write_words.ensures (failed _ _ c.from_residual-in_err-write_bytes.ensures.0 c.in_err-write_bytes.ensures))

pub returns : goal.returns
returns g c =
    same_text (append_assoc _ (codes "\"") _) (then c.in_ok-write_words.ensures (then c.in_ok-write_bytes.ensures c.write_word.ensures))
