use Rattle.ir_builder_supported.proofs.Common.{ap, is_some}
use Rattle.ir_builder_expressions.proofs.AbsenceLemmas.{longer}
use Rattle.ir_builder_supported.proofs.forms.is_asked.Goals as goal

pub returns-in_default-2 : goal.returns-in_default-2
returns-in_default-2 c = ap is_some (longer c.args.more.now c.in_default.len_at_least)
