use Rattle.std.proofs.Common.{sym, ap, arith}
use Rattle.std.specs.Option.{is_some}
use Rattle.cell_heap.proofs.HeldLemmas.{held_found, held_lost, count_found}
use Rattle.cell_heap.proofs.KeptLemmas.{kept_taken}
use Rattle.cell_heap.proofs.ChangeLemmas.{put_taken}
use Rattle.cell_heap.proofs.heap.Heap.take.Goals as goal

pub returns-in_default-clause-there : goal.returns-in_default-clause-there
returns-in_default-clause-there c =
    rw (← c.self.view_is) (sym (ap is_some (held_lost c.self.inside.cells c.args.key c.lookup_mut.ensures.named c.in_default.ensures.cell)))

pub overflow_add-cell : goal.overflow_add-cell
overflow_add-cell c =
    let small = rw (← c.self.view_is) at c.requires in
    omega (arith, count_found c.self.inside.cells c.args.key c.in-Some.cell.now c.lookup_mut.ensures.named c.in-Some.ensures.cell, small)

pub returns-clause-there : goal.returns-clause-there
returns-clause-there c =
    rw (← c.self.view_is) (sym (ap is_some (held_found c.self.inside.cells c.args.key c.in-Some.cell.now c.lookup_mut.ensures.named c.in-Some.ensures.cell)))

pub returns-clause-ok : goal.returns-clause-ok
returns-clause-ok c =
    rw (← c.self.view_is) (put_taken c.self.inside.cells c.args.key c.in-Some.cell.now c.lookup_mut.ensures.named c.in-Some.ensures.cell)

pub invariant_of-self-2 : goal.invariant_of-self-2
invariant_of-self-2 c =
    kept_taken c.self.inside.cells c.args.key c.in-Some.cell.now c.lookup_mut.ensures.named c.in-Some.ensures.cell c.self.invariant
