use Rattle.std.proofs.Common.{codes}
use Rattle.c_core.specs.Primitives.{ANumber, AText}
use Rattle.c_core.proofs.rows.text_call_fits.Goals as goal

pub returns-in-Literal : goal.returns-in-Literal
returns-in-Literal c = λ code. rw c.in-Literal.is (c.written_fits.ensures code (codes "CPyStr_Literal"))

pub returns-in-Concat : goal.returns-in-Concat
returns-in-Concat c = λ code. rw c.in-Concat.is (c.two_fit.ensures code (codes "CPyStr_Concat") AText AText)

pub returns-in-Eq : goal.returns-in-Eq
returns-in-Eq c = λ code. rw c.in-Eq.is (c.two_fit-in-Eq.ensures code (codes "CPyStr_Eq") AText AText)

pub returns-in-Lt : goal.returns-in-Lt
returns-in-Lt c = λ code. rw c.in-Lt.is (c.two_fit-in-Lt.ensures code (codes "CPyStr_Lt") AText AText)

pub returns-in-Le : goal.returns-in-Le
returns-in-Le c = λ code. rw c.in-Le.is (c.two_fit-in-Le.ensures code (codes "CPyStr_Le") AText AText)

pub returns-in-Len : goal.returns-in-Len
returns-in-Len c = λ code. rw c.in-Len.is (c.one_fits.ensures code (codes "CPyStr_Len") AText)

pub returns-in-GetItem : goal.returns-in-GetItem
returns-in-GetItem c = λ code. rw c.in-GetItem.is (c.item_fits.ensures code (codes "CPyStr_GetItem") AText ANumber)
