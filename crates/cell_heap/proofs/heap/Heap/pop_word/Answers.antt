use Rattle.std.proofs.Common.{refl, sym, ap, ◌∙◌}
use Rattle.std.specs.Option.{is_some, option_and_then}
use Rattle.cell_heap.specs.declared.cells.CountedCell.{CountedCell}
use Rattle.cell_heap.specs.Words.{last_in, without_last}
use Rattle.cell_heap.proofs.HeldLemmas.{held_found, held_lost}
use Rattle.cell_heap.proofs.MarkLemmas.{has_kept}
use Rattle.cell_heap.proofs.KeptLemmas.{without_last-key, kept_written}
use Rattle.cell_heap.proofs.ChangeLemmas.{put_writes}
use Rattle.cell_heap.proofs.heap.Heap.pop_word.Goals as goal

pub returns-in_default-clause-there : goal.returns-in_default-clause-there
returns-in_default-clause-there c =
    rw (← c.self.view_is) (sym (ap is_some (held_lost c.self.inside.cells c.args.key c.lookup_mut.ensures.named c.in_default.ensures.cell)))

pub returns-clause-there : goal.returns-clause-there
returns-clause-there c =
    rw (← c.self.view_is) (sym (ap is_some (held_found c.self.inside.cells c.args.key c.in-Some.cell.now c.lookup_mut.ensures.named c.in-Some.ensures.cell)))

pub returns-clause-ok : goal.returns-clause-ok
returns-clause-ok c =
    let new : CountedCell = record { count = c.in-Some.cell.now.count; content = c.pop_word.new.self } in
    rw (← c.self.view_is) (put_writes without_last c.self.inside.cells c.args.key c.in-Some.cell.now new c.lookup_mut.ensures.named c.in-Some.ensures.cell refl c.pop_word.ensures.rest)

pub returns-clause-last : goal.returns-clause-last
returns-clause-last c =
    rw (← c.self.view_is) (c.pop_word.ensures.last ∙ sym (ap (option_and_then last_in) (held_found c.self.inside.cells c.args.key c.in-Some.cell.now c.lookup_mut.ensures.named c.in-Some.ensures.cell)))

pub invariant_of-self-2 : goal.invariant_of-self-2
invariant_of-self-2 c =
    let new : CountedCell = record { count = c.in-Some.cell.now.count; content = c.pop_word.new.self } in
    kept_written without_last c.self.inside.cells c.args.key c.in-Some.cell.now new without_last-key c.lookup_mut.ensures.named c.in-Some.ensures.cell refl c.pop_word.ensures.rest (λ after narrows. has_kept after c.in-Some.cell.now.content c.pop_word.new.self c.pop_word.ensures.keys) c.self.invariant
