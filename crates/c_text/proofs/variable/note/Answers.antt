use Rattle.c_text.proofs.PlaceTables.{noted}
use Rattle.c_text.proofs.variable.note.Goals as goal

pub returns : goal.returns
returns c = λ other. noted c.args.name.now c.args.places.now c.insert.new.self c.in_ok-key.key c.args.place other c.in_ok-key.ensures.items c.if-contains_key.ensures c.in_ok-insert.ensures.entries
