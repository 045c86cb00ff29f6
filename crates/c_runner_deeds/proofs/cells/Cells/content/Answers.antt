use Rattle.cell_heap.specs.Contents.{name_of}
use Rattle.c_runner_deeds.proofs.CellsLemmas.{content_out}
use Rattle.c_runner_deeds.proofs.cells.Cells.content.Goals as goal

pub returns-clause-content : goal.returns-clause-content
returns-clause-content c =
    rw (← c.self.view_is) (content_out c.self.inside.heap (name_of c.args.key) (rw c.self.view_is c.requires) (λ b. b.now) c.content.result c.content.ensures)
