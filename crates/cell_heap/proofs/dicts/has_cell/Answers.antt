use Rattle.std.proofs.Common.{sym, ap, ◌∙◌, inl, inr}
use Rattle.cell_heap.specs.Contents.{word_named}
use Rattle.cell_heap.specs.Held.{cells_of}
use Rattle.cell_heap.specs.Placed.{is_there}
use Rattle.cell_heap.proofs.HeldLemmas.{is_held}
use Rattle.cell_heap.proofs.dicts.has_cell.Goals as goal

pub returns-in-Big : goal.returns-in-Big
returns-in-Big c =
    let cells = cells_of c.args.cells.now.entries in
    let there = c.is_some.ensures ∙ is_held (λ x. x.now) c.args.cells.now c.in-Big.key c.lookup.result c.lookup.ensures.named c.lookup.ensures.cell in
    elim c.in-Big.is [
      | inl is ↦ there ∙ ap (λ w. is_there cells (word_named w)) (sym is)
      | inr is ↦ there ∙ ap (λ w. is_there cells (word_named w)) (sym is)
    ]
