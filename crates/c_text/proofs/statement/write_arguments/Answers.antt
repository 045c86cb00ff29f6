use Rattle.c_text.proofs.Joined.{joined_of}
use Rattle.c_text.proofs.Writing.{same_text, then, failed}
use Rattle.c_text.proofs.statement.write_arguments.Goals as goal

pub returns-in_err-write_argument : goal.returns-in_err-write_argument
returns-in_err-write_argument g c =
    same_text (joined_of c.args.vars.now _ _ _ c.as_slice.ensures c.in-len1-up.len_at_least c.first-item.is)
    (failed _ _ c.from_residual.ensures.0 c.in_err-write_argument.ensures)

pub returns : goal.returns
returns g c =
    same_text (joined_of c.args.vars.now _ _ _ c.as_slice.ensures c.in-len1-up.len_at_least c.first-item.is)
    (then c.in_ok-write_argument.ensures c.write_other_arguments.ensures)
