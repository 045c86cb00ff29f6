use Rattle.std.proofs.Common.{sym, ap}
use Rattle.std.specs.Option.{is_some}
use Rattle.cell_heap.proofs.HeldLemmas.{held_found, held_lost, count_found}
use Rattle.cell_heap.proofs.heap.Heap.count.Goals as goal

pub returns-in-None-clause-there : goal.returns-in-None-clause-there
returns-in-None-clause-there c =
    rw (← c.self.view_is) (sym (ap is_some (held_lost c.self.inside.cells c.args.key c.lookup.ensures.named c.in-None.ensures.cell)))

pub returns-in-Some-clause-there : goal.returns-in-Some-clause-there
returns-in-Some-clause-there c =
    rw (← c.self.view_is) (sym (ap is_some (held_found c.self.inside.cells c.args.key c.in-Some.cell.now c.lookup.ensures.named c.in-Some.ensures.cell)))

pub returns-in-Some-clause-count : goal.returns-in-Some-clause-count
returns-in-Some-clause-count c =
    rw (← c.self.view_is) (sym (count_found c.self.inside.cells c.args.key c.in-Some.cell.now c.lookup.ensures.named c.in-Some.ensures.cell))
