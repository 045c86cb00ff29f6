use Rattle.std.proofs.Common.{option_and_then, sym, ap, ◌∙◌, arith}
use Rattle.std.proofs.lemmas.Option.{slice_get_past}
use Rattle.slot_arena.specs.Serials.{serial_of}
use Rattle.slot_arena.specs.Slot.{value_under}
use Rattle.slot_arena.proofs.Changes.{value_at-contents_of}
use Rattle.slot_arena.proofs.arena.Arena.get.Goals as goal

pub returns-then-key-len : goal.returns-then-key-len
returns-then-key-len g c =
    let here = value_at-contents_of _ _ _ _ _ _ c.args.key c.self.invariant in
    rw (← c.self.view_is) (c.value.ensures ∙ ap (λ serial. value_under serial c.at.result.now) c.serial.ensures ∙ sym (here ∙ ap (option_and_then (value_under (serial_of c.args.key))) c.at.ensures))

pub returns-else-key-len : goal.returns-else-key-len
returns-else-key-len g c =
    let here = value_at-contents_of _ _ _ _ _ _ c.args.key c.self.invariant in
    let past = slice_get_past c.self.inside.slots.slots c.args.key.slot (omega arith) in
    rw (← c.self.view_is) (sym (here ∙ ap (option_and_then (value_under (serial_of c.args.key))) past))
