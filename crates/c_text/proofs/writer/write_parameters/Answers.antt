use Rattle.c_text.proofs.Writing.{same_text, then, failed}
use Rattle.c_text.proofs.WrittenLemmas.{parameters_of}
use Rattle.c_text.proofs.writer.write_parameters.Goals as goal

pub returns-in_err-write_parameter : goal.returns-in_err-write_parameter
returns-in_err-write_parameter g c =
    same_text (parameters_of c.args.vars.now _ c.in-len1-up.len_at_least c.first-item.is)
    (failed _ _ c.from_residual.ensures.0 c.in_err-write_parameter.ensures)

pub returns : goal.returns
returns g c =
    same_text (parameters_of c.args.vars.now _ c.in-len1-up.len_at_least c.first-item.is)
    (then c.in_ok-write_parameter.ensures c.write_other_parameters.ensures)
