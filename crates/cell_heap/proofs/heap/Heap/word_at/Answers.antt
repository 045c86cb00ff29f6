use Rattle.std.proofs.Common.{sym, ap, ◌∙◌}
use Rattle.std.specs.Option.{is_some, option_and_then}
use Rattle.cell_heap.specs.Words.{word_in}
use Rattle.cell_heap.proofs.HeldLemmas.{held_found, held_lost}
use Rattle.cell_heap.proofs.heap.Heap.word_at.Goals as goal

pub returns-in-None-clause-there : goal.returns-in-None-clause-there
returns-in-None-clause-there c =
    rw (← c.self.view_is) (sym (ap is_some (held_lost c.self.inside.cells c.args.key c.lookup.ensures.named c.in-None.ensures.cell)))

pub returns-in-Some-clause-there : goal.returns-in-Some-clause-there
returns-in-Some-clause-there c =
    rw (← c.self.view_is) (sym (ap is_some (held_found c.self.inside.cells c.args.key c.in-Some.cell.now c.lookup.ensures.named c.in-Some.ensures.cell)))

pub returns-in-Some-clause-word : goal.returns-in-Some-clause-word
returns-in-Some-clause-word c =
    rw (← c.self.view_is) (
    c.word_at.ensures
    ∙ sym (ap (option_and_then (word_in c.args.place)) (held_found c.self.inside.cells c.args.key c.in-Some.cell.now c.lookup.ensures.named c.in-Some.ensures.cell))
    )
