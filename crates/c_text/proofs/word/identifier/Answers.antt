use Rattle.c_text.proofs.Bytes.{no_identifier}
use Rattle.c_text.proofs.word.identifier.Goals as goal

pub returns-in_default : goal.returns-in_default
returns-in_default c = no_identifier c.args.bytes.now c.in_default.ensures.cases.0
