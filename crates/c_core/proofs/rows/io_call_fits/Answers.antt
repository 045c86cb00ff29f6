use Rattle.std.proofs.Common.{codes}
use Rattle.c_core.proofs.rows.io_call_fits.Goals as goal

pub returns-in-Input : goal.returns-in-Input
returns-in-Input c = λ code. rw c.in-Input.is (c.nothing_fits.ensures code (codes "CPy_Input"))
