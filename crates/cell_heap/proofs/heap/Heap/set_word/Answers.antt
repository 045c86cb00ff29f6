use Rattle.std.proofs.Common.{refl, sym, ap, ◌∙◌}
use Rattle.std.specs.Option.{is_some, option_map, option_and_then}
use Rattle.cell_heap.specs.declared.cells.CountedCell.{CountedCell}
use Rattle.cell_heap.specs.Contents.{word_named}
use Rattle.cell_heap.specs.Words.{word_in, with_word}
use Rattle.cell_heap.proofs.HeldLemmas.{held_found, held_lost}
use Rattle.cell_heap.proofs.MarkLemmas.{has_kept}
use Rattle.cell_heap.proofs.KeptLemmas.{with_word-key, kept_written}
use Rattle.cell_heap.proofs.ChangeLemmas.{put_writes}
use Rattle.cell_heap.proofs.heap.Heap.set_word.Goals as goal

pub returns-in_default-clause-there : goal.returns-in_default-clause-there
returns-in_default-clause-there c =
    rw (← c.self.view_is) (sym (ap is_some (held_lost c.self.inside.cells c.args.key c.lookup_mut.ensures.named c.in_default.ensures.cell)))

pub returns-clause-there : goal.returns-clause-there
returns-clause-there c =
    rw (← c.self.view_is) (sym (ap is_some (held_found c.self.inside.cells c.args.key c.in-Some.cell.now c.lookup_mut.ensures.named c.in-Some.ensures.cell)))

pub returns-clause-ok : goal.returns-clause-ok
returns-clause-ok c =
    let new : CountedCell = record { count = c.in-Some.cell.now.count; content = c.set_word.new.self } in
    rw (← c.self.view_is) (put_writes (with_word c.args.place (option_map word_named c.args.word)) c.self.inside.cells c.args.key c.in-Some.cell.now new c.lookup_mut.ensures.named c.in-Some.ensures.cell refl c.set_word.ensures.written)

pub returns-clause-old : goal.returns-clause-old
returns-clause-old c =
    rw (← c.self.view_is) (c.set_word.ensures.old ∙ sym (ap (option_and_then (word_in c.args.place)) (held_found c.self.inside.cells c.args.key c.in-Some.cell.now c.lookup_mut.ensures.named c.in-Some.ensures.cell)))

pub invariant_of-self-2 : goal.invariant_of-self-2
invariant_of-self-2 c =
    let new : CountedCell = record { count = c.in-Some.cell.now.count; content = c.set_word.new.self } in
    kept_written (with_word c.args.place (option_map word_named c.args.word)) c.self.inside.cells c.args.key c.in-Some.cell.now new (with_word-key c.args.place (option_map word_named c.args.word)) c.lookup_mut.ensures.named c.in-Some.ensures.cell refl c.set_word.ensures.written (λ after narrows. has_kept after c.in-Some.cell.now.content c.set_word.new.self c.set_word.ensures.keys) c.self.invariant
