use Rattle.c_text.proofs.Writing.{same_text, then, failed}
use Rattle.c_text.proofs.WrittenLemmas.{functions_of}
use Rattle.c_text.proofs.writer.write_functions.Goals as goal

pub returns-in_err-write_others : goal.returns-in_err-write_others
returns-in_err-write_others g c =
    same_text (functions_of _ _ _ c.as_slice.ensures c.in-len1-up.len_at_least c.top-item.is)
    (failed _ _ c.from_residual.ensures.0 c.in_err-write_others.ensures)

pub returns : goal.returns
returns g c =
    same_text (functions_of _ _ _ c.as_slice.ensures c.in-len1-up.len_at_least c.top-item.is)
    (then c.in_ok-write_others.ensures c.write_top.ensures)
