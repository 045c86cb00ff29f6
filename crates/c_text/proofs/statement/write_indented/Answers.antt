use Rattle.c_text.proofs.Writing.{then, failed}
use Rattle.c_text.proofs.statement.write_indented.Goals as goal

pub returns-in_err-write_word : goal.returns-in_err-write_word
returns-in_err-write_word g c = failed _ _ c.from_residual.ensures.0 c.in_err-write_word.ensures

pub returns-in_err-write_statement : goal.returns-in_err-write_statement
returns-in_err-write_statement g c = then c.in_ok-write_word.ensures (failed _ _ c.from_residual-in_err-write_statement.ensures.0 c.in_err-write_statement.ensures)

pub returns : goal.returns
returns g c = then c.in_ok-write_word.ensures (then c.in_ok-write_statement.ensures c.write_word-2.ensures)
