use Rattle.c_core.proofs.rows.attribute_call_fits.Goals as goal

pub returns-in-Set : goal.returns-in-Set
returns-in-Set c = λ code. rw c.in-Set.is (c.slot_set_fits.ensures code)
