use Rattle.c_text.proofs.Writing.{then, failed}
use Rattle.c_text.proofs.writer.write_class_line.Goals as goal

pub returns-in_err-write_class : goal.returns-in_err-write_class
returns-in_err-write_class g c = failed _ _ c.from_residual.ensures.0 c.in_err-write_class.ensures

pub returns : goal.returns
returns g c = then c.in_ok-write_class.ensures c.write_word.ensures
