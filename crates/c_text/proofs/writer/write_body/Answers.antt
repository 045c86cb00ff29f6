use Rattle.c_text.proofs.Writing.{then, failed}
use Rattle.c_text.proofs.writer.write_body.Goals as goal

pub returns-in_err-write_declarations : goal.returns-in_err-write_declarations
returns-in_err-write_declarations g c = failed _ _ c.from_residual.ensures.0 c.in_err-write_declarations.ensures

pub returns-in_err-write_lines : goal.returns-in_err-write_lines
returns-in_err-write_lines g c = then c.in_ok-write_declarations.ensures (failed _ _ c.from_residual-in_err-write_lines.ensures.0 c.in_err-write_lines.ensures)

pub returns : goal.returns
returns g c = then c.in_ok-write_declarations.ensures (then c.in_ok-write_lines.ensures c.write_word.ensures)
