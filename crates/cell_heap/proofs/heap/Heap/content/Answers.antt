use Rattle.cell_heap.proofs.HeldLemmas.{held_found, held_lost}
use Rattle.cell_heap.proofs.heap.Heap.content.Goals as goal

pub returns-in-None : goal.returns-in-None
returns-in-None c =
    rw (← c.self.view_is) (held_lost c.self.inside.cells c.args.key c.lookup.ensures.named c.in-None.ensures.cell)

pub returns-in-Some : goal.returns-in-Some
returns-in-Some c =
    rw (← c.self.view_is) (held_found c.self.inside.cells c.args.key c.in-Some.cell.now c.lookup.ensures.named c.in-Some.ensures.cell)
