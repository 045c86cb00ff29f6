use Rattle.std.proofs.Common.{sym, ap, ◌∙◌, Some}
use Rattle.std.specs.Prelude.{◌&&◌, is_some}
use Rattle.cell_heap.specs.Contents.{name_of, word_named, content_named}
use Rattle.cell_heap.specs.Held.{cells_of}
use Rattle.cell_heap.specs.Pairs.{pairs_held}
use Rattle.cell_heap.specs.Placed.{key_under, is_there, place_among}
use Rattle.cell_heap.proofs.HeldLemmas.{held_found, held_lost}
use Rattle.cell_heap.proofs.MarkLemmas.{marked_dict}
use Rattle.cell_heap.proofs.PairLemmas.{no_place}
use Rattle.cell_heap.proofs.heap.Heap.dict_find.Goals as goal

pub returns-in_default-clause-there : goal.returns-in_default-clause-there
returns-in_default-clause-there c =
    let h = cells_of c.self.inside.cells.entries in
    rw (← c.self.view_is) (sym (ap (λ o. is_some o && is_there h (word_named c.args.key)) (held_lost c.self.inside.cells c.args.dict c.lookup.ensures.named c.in_default.ensures.cell)))

pub place_of_key-requires : goal.place_of_key-requires
place_of_key-requires c =
    marked_dict c.self.inside.cells c.args.dict c.in-Some.cell.now c.in-Dict.dict c.in-Some.ensures.cell c.in-Dict.is c.self.invariant.marked

pub returns-in-Dict-clause-there : goal.returns-in-Dict-clause-there
returns-in-Dict-clause-there c =
    let h = cells_of c.self.inside.cells.entries in
    let there = held_found c.self.inside.cells c.args.dict c.in-Some.cell.now c.lookup.ensures.named c.in-Some.ensures.cell in
    rw (← c.self.view_is) (sym (ap (λ o. is_some o && is_there h (word_named c.args.key)) there ∙ sym c.has_cell.ensures ∙ c.if-not-has_cell.false))

pub returns-in-Dict-clause-place : goal.returns-in-Dict-clause-place
returns-in-Dict-clause-place c =
    let h = cells_of c.self.inside.cells.entries in
    let k = key_under h (word_named c.args.key) in
    let there = held_found c.self.inside.cells c.args.dict c.in-Some.cell.now c.lookup.ensures.named c.in-Some.ensures.cell ∙ ap (λ x. Some (content_named x)) c.in-Dict.is in
    rw (← c.self.view_is) (c.place_of_key.ensures ∙ sym (ap (λ o. place_among h k (pairs_held o)) there))

pub returns-in_default-content : goal.returns-in_default-content
returns-in_default-content c =
    let h = cells_of c.self.inside.cells.entries in
    let there = held_found c.self.inside.cells c.args.dict c.in-Some.cell.now c.lookup.ensures.named c.in-Some.ensures.cell in
    record {
      there = rw (← c.self.view_is) (sym (ap (λ o. is_some o && is_there h (word_named c.args.key)) there ∙ sym c.has_cell.ensures ∙ c.if-not-has_cell.false));
      place = rw (← c.self.view_is) (no_place h (name_of c.args.dict) (word_named c.args.key) c.in-Some.cell.now.content there c.in_default-content.not-Dict);
    }
