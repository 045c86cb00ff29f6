use Rattle.std.proofs.Common.{codes}
use Rattle.c_core.specs.Primitives.{Anything, ANumber}
use Rattle.c_core.proofs.rows.int64_call_fits.Goals as goal

pub returns-in-Add : goal.returns-in-Add
returns-in-Add c = λ code. rw c.in-Add.is (c.two_fit.ensures code (codes "CPyInt64_Add") Anything Anything)

pub returns-in-Subtract : goal.returns-in-Subtract
returns-in-Subtract c = λ code. rw c.in-Subtract.is (c.two_fit-in-Subtract.ensures code (codes "CPyInt64_Subtract") Anything Anything)

pub returns-in-Multiply : goal.returns-in-Multiply
returns-in-Multiply c = λ code. rw c.in-Multiply.is (c.two_fit-in-Multiply.ensures code (codes "CPyInt64_Multiply") Anything Anything)

pub returns-in-Negate : goal.returns-in-Negate
returns-in-Negate c = λ code. rw c.in-Negate.is (c.one_fits.ensures code (codes "CPyInt64_Negate") Anything)

pub returns-in-FromBool : goal.returns-in-FromBool
returns-in-FromBool c = λ code. rw c.in-FromBool.is (c.one_fits-in-FromBool.ensures code (codes "CPyInt64_FromBool") Anything)

pub returns-in-Eq : goal.returns-in-Eq
returns-in-Eq c = λ code. rw c.in-Eq.is (c.two_fit-in-Eq.ensures code (codes "CPyInt64_Eq") Anything Anything)

pub returns-in-Lt : goal.returns-in-Lt
returns-in-Lt c = λ code. rw c.in-Lt.is (c.two_fit-in-Lt.ensures code (codes "CPyInt64_Lt") Anything Anything)

pub returns-in-Le : goal.returns-in-Le
returns-in-Le c = λ code. rw c.in-Le.is (c.two_fit-in-Le.ensures code (codes "CPyInt64_Le") Anything Anything)

pub returns-in-Str : goal.returns-in-Str
returns-in-Str c = λ code. rw c.in-Str.is (c.one_fits-in-Str.ensures code (codes "CPyInt64_Str") Anything)

pub returns-in-FloorDivide : goal.returns-in-FloorDivide
returns-in-FloorDivide c = λ code. rw c.in-FloorDivide.is (c.two_fit-in-FloorDivide.ensures code (codes "CPyInt64_FloorDivide") Anything Anything)

pub returns-in-Remainder : goal.returns-in-Remainder
returns-in-Remainder c = λ code. rw c.in-Remainder.is (c.two_fit-in-Remainder.ensures code (codes "CPyInt64_Remainder") Anything Anything)

pub returns-in-Lshift : goal.returns-in-Lshift
returns-in-Lshift c = λ code. rw c.in-Lshift.is (c.two_fit-in-Lshift.ensures code (codes "CPyInt64_Lshift") Anything Anything)

pub returns-in-Rshift : goal.returns-in-Rshift
returns-in-Rshift c = λ code. rw c.in-Rshift.is (c.two_fit-in-Rshift.ensures code (codes "CPyInt64_Rshift") Anything Anything)

pub returns-in-Box : goal.returns-in-Box
returns-in-Box c = λ code. rw c.in-Box.is (c.one_fits-in-Box.ensures code (codes "CPyInt64_Box") Anything)

pub returns-in-Unbox : goal.returns-in-Unbox
returns-in-Unbox c = λ code. rw c.in-Unbox.is (c.one_fits-in-Unbox.ensures code (codes "CPyInt64_Unbox") ANumber)
