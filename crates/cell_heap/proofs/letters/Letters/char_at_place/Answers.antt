use Rattle.std.proofs.Common.{sym, ap, ◌∙◌, slice_get}
use Rattle.std.specs.Str.{chars}
use Rattle.std.proofs.lemmas.Iterator.{YieldsList-from_chars}
use Rattle.std.proofs.lemmas.Iterator.Adapters.{option_map_id}
use Rattle.std.proofs.lemmas.Iterator.Consumers.{nth_from_yields_List}
use Rattle.std.proofs.lemmas.Str.{chars-IsAscii}
use Rattle.cell_heap.proofs.letters.Letters.char_at_place.Goals as goal

pub returns-then-self : goal.returns-then-self
returns-then-self c =
    let is_ascii = c.self.invariant c.if-self.true in
    c.byte_at.ensures
    ∙ ap (λ bytes. slice_get bytes c.args.place) (c.as_str-text.ensures ∙ sym (chars-IsAscii c.self.inside.text is_ascii) ∙ ap chars c.self.view_is)

pub returns-else-self : goal.returns-else-self
returns-else-self c =
    let yielded = YieldsList-from_chars c.as_str-text.result.now c.as_str-text.utf8 c.chars.ensures.rest in
    let found = nth_from_yields_List c.nth.result c.nth.new.self c.args.place c.nth.ensures.ran yielded in
    sym (option_map_id c.nth.result) ∙ found ∙ ap (λ bytes. slice_get (chars bytes) c.args.place) (c.as_str-text.ensures ∙ c.self.view_is)
