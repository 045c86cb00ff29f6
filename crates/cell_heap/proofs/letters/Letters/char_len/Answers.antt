use Rattle.std.proofs.Common.{sym, ap, ◌∙◌, length}
use Rattle.std.specs.Str.{chars}
use Rattle.std.proofs.lemmas.Str.{chars-IsAscii}
use Rattle.cell_heap.proofs.letters.Letters.char_len.Goals as goal

pub returns-then-self : goal.returns-then-self
returns-then-self c =
    let is_ascii = c.self.invariant c.if-self.true in
    ap length (c.as_str-text.ensures ∙ sym (chars-IsAscii c.self.inside.text is_ascii) ∙ ap chars c.self.view_is)
