use Rattle.std.proofs.Common.{codes}
use Rattle.c_core.specs.Primitives.{Anything, ANumber}
use Rattle.c_core.proofs.rows.tagged_call_fits.Goals as goal

pub returns-in-Add : goal.returns-in-Add
returns-in-Add c = λ code. rw c.in-Add.is (c.two_fit.ensures code (codes "CPyTagged_Add") ANumber ANumber)

pub returns-in-Subtract : goal.returns-in-Subtract
returns-in-Subtract c = λ code. rw c.in-Subtract.is (c.two_fit-in-Subtract.ensures code (codes "CPyTagged_Subtract") ANumber ANumber)

pub returns-in-Multiply : goal.returns-in-Multiply
returns-in-Multiply c = λ code. rw c.in-Multiply.is (c.two_fit-in-Multiply.ensures code (codes "CPyTagged_Multiply") ANumber ANumber)

pub returns-in-Negate : goal.returns-in-Negate
returns-in-Negate c = λ code. rw c.in-Negate.is (c.one_fits.ensures code (codes "CPyTagged_Negate") ANumber)

pub returns-in-FloorDivide : goal.returns-in-FloorDivide
returns-in-FloorDivide c = λ code. rw c.in-FloorDivide.is (c.two_fit-in-FloorDivide.ensures code (codes "CPyTagged_FloorDivide") ANumber ANumber)

pub returns-in-Remainder : goal.returns-in-Remainder
returns-in-Remainder c = λ code. rw c.in-Remainder.is (c.two_fit-in-Remainder.ensures code (codes "CPyTagged_Remainder") ANumber ANumber)

pub returns-in-Lshift : goal.returns-in-Lshift
returns-in-Lshift c = λ code. rw c.in-Lshift.is (c.two_fit-in-Lshift.ensures code (codes "CPyTagged_Lshift") ANumber ANumber)

pub returns-in-Rshift : goal.returns-in-Rshift
returns-in-Rshift c = λ code. rw c.in-Rshift.is (c.two_fit-in-Rshift.ensures code (codes "CPyTagged_Rshift") ANumber ANumber)

pub returns-in-FromText : goal.returns-in-FromText
returns-in-FromText c = λ code. rw c.in-FromText.is (c.decimal_fits.ensures code)

pub returns-in-FromInt64 : goal.returns-in-FromInt64
returns-in-FromInt64 c = λ code. rw c.in-FromInt64.is (c.one_fits-in-FromInt64.ensures code (codes "CPyTagged_FromInt64") Anything)

pub returns-in-FromBool : goal.returns-in-FromBool
returns-in-FromBool c = λ code. rw c.in-FromBool.is (c.one_fits-in-FromBool.ensures code (codes "CPyTagged_FromBool") Anything)

pub returns-in-AsInt64 : goal.returns-in-AsInt64
returns-in-AsInt64 c = λ code. rw c.in-AsInt64.is (c.one_fits-in-AsInt64.ensures code (codes "CPyTagged_AsInt64") ANumber)

pub returns-in-Eq : goal.returns-in-Eq
returns-in-Eq c = λ code. rw c.in-Eq.is (c.two_fit-in-Eq.ensures code (codes "CPyTagged_Eq") ANumber ANumber)

pub returns-in-Lt : goal.returns-in-Lt
returns-in-Lt c = λ code. rw c.in-Lt.is (c.two_fit-in-Lt.ensures code (codes "CPyTagged_Lt") ANumber ANumber)

pub returns-in-Le : goal.returns-in-Le
returns-in-Le c = λ code. rw c.in-Le.is (c.two_fit-in-Le.ensures code (codes "CPyTagged_Le") ANumber ANumber)

pub returns-in-Str : goal.returns-in-Str
returns-in-Str c = λ code. rw c.in-Str.is (c.one_fits-in-Str.ensures code (codes "CPyTagged_Str") ANumber)

pub returns-in-Box : goal.returns-in-Box
returns-in-Box c = λ code. rw c.in-Box.is (c.one_fits-in-Box.ensures code (codes "CPyTagged_Box") ANumber)

pub returns-in-Unbox : goal.returns-in-Unbox
returns-in-Unbox c = λ code. rw c.in-Unbox.is (c.one_fits-in-Unbox.ensures code (codes "CPyTagged_Unbox") ANumber)
