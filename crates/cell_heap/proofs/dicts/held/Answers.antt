use Rattle.std.proofs.Common.{sym}
use Rattle.cell_heap.proofs.HeldLemmas.{held_found, held_lost}
use Rattle.cell_heap.proofs.dicts.held.Goals as goal

pub returns-in-None : goal.returns-in-None
returns-in-None c = sym (held_lost c.args.cells.now c.args.key c.lookup.ensures.named c.in-None.ensures.cell)

pub returns-in-Some : goal.returns-in-Some
returns-in-Some c =
    sym (held_found c.args.cells.now c.args.key c.in-Some.cell.now c.lookup.ensures.named c.in-Some.ensures.cell)
