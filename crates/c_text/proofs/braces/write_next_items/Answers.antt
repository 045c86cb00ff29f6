use Rattle.c_text.proofs.Items.{braced_of}
use Rattle.c_text.proofs.Writing.{same_text, then, failed}
use Rattle.c_text.proofs.braces.write_next_items.Goals as goal

pub returns-in_err-write : goal.returns-in_err-write
returns-in_err-write g c =
    same_text (braced_of g.P.Item.shown _ _ _ c.as_slice.ensures c.in-len1-up.len_at_least c.first-item.is)
    (failed _ _ c.from_residual.ensures.0 c.in_err-write.ensures)

pub returns-in_err-write_other_items : goal.returns-in_err-write_other_items
returns-in_err-write_other_items g c =
    same_text (braced_of g.P.Item.shown _ _ _ c.as_slice.ensures c.in-len1-up.len_at_least c.first-item.is)
    (then c.in_ok-write.ensures (failed _ _ c.from_residual-in_err-write_other_items.ensures.0 c.in_err-write_other_items.ensures))

pub returns : goal.returns
returns g c =
    same_text (braced_of g.P.Item.shown _ _ _ c.as_slice.ensures c.in-len1-up.len_at_least c.first-item.is)
    (then c.in_ok-write.ensures (then c.in_ok-write_other_items.ensures c.write_word-2.ensures))
