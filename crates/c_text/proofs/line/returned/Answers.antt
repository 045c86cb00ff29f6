use Rattle.std.proofs.Common.{None}
use Rattle.c_text.proofs.StatementReads.{return_reads}
use Rattle.c_text.proofs.line.returned.Goals as goal

pub returns-in-None : goal.returns-in-None
returns-in-None c = return_reads c.args.vars.now c.args.word.now None c.in-None.ensures
