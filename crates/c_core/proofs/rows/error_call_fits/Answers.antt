use Rattle.std.proofs.Common.{codes}
use Rattle.c_core.proofs.rows.error_call_fits.Goals as goal

pub returns-in-Occurred : goal.returns-in-Occurred
returns-in-Occurred c = λ code. rw c.in-Occurred.is (c.nothing_fits.ensures code (codes "CPyErr_Occurred"))

pub returns-in-Catch : goal.returns-in-Catch
returns-in-Catch c = λ code. rw c.in-Catch.is (c.nothing_fits-in-Catch.ensures code (codes "CPyErr_Catch"))
