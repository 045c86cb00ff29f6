use Rattle.cell_heap.proofs.KeptLemmas.{kept_made}
use Rattle.cell_heap.proofs.heap.Heap.make.Goals as goal

pub invariant_of-self-2 : goal.invariant_of-self-2
invariant_of-self-2 c =
    let few = rw (← c.self.view_is) at c.requires in
    kept_made c.self.inside.cells c.reserve.new.self c.insert.new.self c.insert.result c.forget_marks.new.self few c.reserve.ensures.kept c.insert.ensures.stored c.forget_marks.ensures.marks c.self.invariant
