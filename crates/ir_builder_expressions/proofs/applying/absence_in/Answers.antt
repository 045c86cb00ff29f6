use Rattle.ir_builder_expressions.proofs.AbsenceLemmas.{longer}
use Rattle.ir_builder_expressions.proofs.applying.absence_in.Goals as goal

pub returns-in_default-2 : goal.returns-in_default-2
returns-in_default-2 c = longer c.args.rest.now c.in_default.len_at_least
