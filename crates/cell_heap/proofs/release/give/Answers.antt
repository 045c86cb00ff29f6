use Rattle.std.proofs.Common.{[], ◌∙◌}
use Rattle.cell_heap.specs.Held.{cells_of}
use Rattle.cell_heap.proofs.OursLemmas.{left_itself}
use Rattle.cell_heap.proofs.release.give.Goals as goal

pub returns-clause-cells : goal.returns-clause-cells
returns-clause-cells c =
    let first = cells_of c.args.cells.now.entries in
    c.take_off_all.ensures.cells first c.lower.ensures.rest ∙ c.lower.ensures.released first [] (left_itself first)
