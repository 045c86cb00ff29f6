use Rattle.std.proofs.Common.{codes}
use Rattle.c_core.specs.Primitives.{ANumber, AList}
use Rattle.c_core.proofs.rows.list_call_fits.Goals as goal

pub returns-in-New : goal.returns-in-New
returns-in-New c = λ code. rw c.in-New.is (c.nothing_fits.ensures code (codes "CPyList_New"))

pub returns-in-Pop : goal.returns-in-Pop
returns-in-Pop c = λ code. rw c.in-Pop.is (c.one_fits.ensures code (codes "CPyList_Pop") AList)

pub returns-in-Len : goal.returns-in-Len
returns-in-Len c = λ code. rw c.in-Len.is (c.one_fits-in-Len.ensures code (codes "CPyList_Len") AList)

pub returns-in-GetItem : goal.returns-in-GetItem
returns-in-GetItem c = λ code. rw c.in-GetItem.is (c.item_fits.ensures code (codes "CPyList_GetItem") AList ANumber)

pub returns-in-GetItemBorrow : goal.returns-in-GetItemBorrow
returns-in-GetItemBorrow c =
    λ code. rw c.in-GetItemBorrow.is (c.item_fits-in-GetItemBorrow.ensures code (codes "CPyList_GetItemBorrow") AList ANumber)

pub returns-in-SetItem : goal.returns-in-SetItem
returns-in-SetItem c = λ code. rw c.in-SetItem.is (c.put_fits.ensures code)
