use Rattle.std.proofs.Common.{codes}
use Rattle.c_core.specs.Primitives.{ATuple}
use Rattle.c_core.proofs.rows.tuple_call_fits.Goals as goal

pub returns-in-Pack : goal.returns-in-Pack
returns-in-Pack c = λ code. rw c.in-Pack.is (c.pack_fits.ensures code)

pub returns-in-GetItem : goal.returns-in-GetItem
returns-in-GetItem c = λ code. rw c.in-GetItem.is (c.part_fits.ensures code)

pub returns-in-GetItemBorrow : goal.returns-in-GetItemBorrow
returns-in-GetItemBorrow c = λ code. rw c.in-GetItemBorrow.is (c.part_fits-in-GetItemBorrow.ensures code)

pub returns-in-Len : goal.returns-in-Len
returns-in-Len c = λ code. rw c.in-Len.is (c.one_fits.ensures code (codes "CPyTuple_Len") ATuple)
