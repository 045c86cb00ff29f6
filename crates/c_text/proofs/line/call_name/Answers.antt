use Rattle.c_text.proofs.StatementLemmas.{not_call_name}
use Rattle.c_text.proofs.line.call_name.Goals as goal

pub returns-in_default : goal.returns-in_default
returns-in_default c = not_call_name c.args.bytes.now c.in_default.ensures.cases.0
