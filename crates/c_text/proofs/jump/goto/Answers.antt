use Rattle.std.proofs.Common.{Some, None}
use Rattle.c_text.proofs.StatementReads.{jump_reads}
use Rattle.c_text.proofs.jump.goto.Goals as goal

pub returns-in-Some : goal.returns-in-Some
returns-in-Some c = λ vars. jump_reads vars c.args.digits.now (Some c.in-Some.number) c.in-Some.ensures

pub returns-in-None : goal.returns-in-None
returns-in-None c = λ vars. jump_reads vars c.args.digits.now None c.in-None.ensures
