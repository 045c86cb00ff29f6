use Rattle.std.proofs.Common.{codes}
use Rattle.c_core.specs.Primitives.{AnException}
use Rattle.c_core.proofs.rows.exception_call_fits.Goals as goal

pub returns-in-Str : goal.returns-in-Str
returns-in-Str c = λ code. rw c.in-Str.is (c.one_fits.ensures code (codes "CPyExc_Str") AnException)
