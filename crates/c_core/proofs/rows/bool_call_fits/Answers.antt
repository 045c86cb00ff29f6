use Rattle.std.proofs.Common.{codes}
use Rattle.c_core.specs.Primitives.{Anything}
use Rattle.c_core.proofs.rows.bool_call_fits.Goals as goal

pub returns-in-Not : goal.returns-in-Not
returns-in-Not c = λ code. rw c.in-Not.is (c.one_fits.ensures code (codes "CPyBool_Not") Anything)

pub returns-in-Str : goal.returns-in-Str
returns-in-Str c = λ code. rw c.in-Str.is (c.one_fits-in-Str.ensures code (codes "CPyBool_Str") Anything)

pub returns-in-Box : goal.returns-in-Box
returns-in-Box c = λ code. rw c.in-Box.is (c.one_fits-in-Box.ensures code (codes "CPyBool_Box") Anything)

pub returns-in-Unbox : goal.returns-in-Unbox
returns-in-Unbox c = λ code. rw c.in-Unbox.is (c.one_fits-in-Unbox.ensures code (codes "CPyBool_Unbox") Anything)
