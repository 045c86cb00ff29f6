use Rattle.c_text.proofs.SameClasses.{no_slot}
use Rattle.c_text.proofs.class_items.slot.Goals as goal

pub returns-in_default-behind-3 : goal.returns-in_default-behind-3
returns-in_default-behind-3 c = no_slot c.args.text.now c.in_default.ensures c.in_default-behind.ensures c.in_default-behind-2.ensures c.in_default-behind-3.ensures
