use Rattle.std.proofs.Common.{codes}
use Rattle.c_core.specs.Primitives.{ANumber, ADict, AKey}
use Rattle.c_core.proofs.rows.dict_call_fits.Goals as goal

pub returns-in-New : goal.returns-in-New
returns-in-New c = λ code. rw c.in-New.is (c.nothing_fits.ensures code (codes "CPyDict_New"))

pub returns-in-GetItem : goal.returns-in-GetItem
returns-in-GetItem c = λ code. rw c.in-GetItem.is (c.two_fit.ensures code (codes "CPyDict_GetItem") ADict AKey)

pub returns-in-SetItem : goal.returns-in-SetItem
returns-in-SetItem c = λ code. rw c.in-SetItem.is (c.entry_fits.ensures code)

pub returns-in-DelItem : goal.returns-in-DelItem
returns-in-DelItem c = λ code. rw c.in-DelItem.is (c.two_fit-in-DelItem.ensures code (codes "CPyDict_DelItem") ADict AKey)

pub returns-in-Contains : goal.returns-in-Contains
returns-in-Contains c = λ code. rw c.in-Contains.is (c.two_fit-in-Contains.ensures code (codes "CPyDict_Contains") ADict AKey)

pub returns-in-CheckSize : goal.returns-in-CheckSize
returns-in-CheckSize c = λ code. rw c.in-CheckSize.is (c.item_fits.ensures code (codes "CPyDict_CheckSize") ADict ANumber)

pub returns-in-KeyAt : goal.returns-in-KeyAt
returns-in-KeyAt c = λ code. rw c.in-KeyAt.is (c.item_fits-in-KeyAt.ensures code (codes "CPyDict_KeyAt") ADict ANumber)

pub returns-in-Len : goal.returns-in-Len
returns-in-Len c = λ code. rw c.in-Len.is (c.one_fits.ensures code (codes "CPyDict_Len") ADict)
