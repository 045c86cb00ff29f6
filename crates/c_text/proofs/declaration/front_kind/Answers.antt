use Rattle.c_text.proofs.LineTexts.{no_front_kind}
use Rattle.c_text.proofs.declaration.front_kind.Goals as goal

pub returns-in_default-behind-3 : goal.returns-in_default-behind-3
returns-in_default-behind-3 c = no_front_kind c.args.text.now c.in_default.ensures c.in_default-behind.ensures c.in_default-behind-2.ensures c.in_default-behind-3.ensures
