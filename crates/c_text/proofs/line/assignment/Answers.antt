use Rattle.c_text.proofs.StatementReads.{no_target}
use Rattle.c_text.proofs.line.assignment.Goals as goal

pub returns-in-None : goal.returns-in-None
returns-in-None c = no_target c.args.vars.now c.args.text.now c.requires.begins.0 c.requires.begins.1 c.in-None.ensures
