use Rattle.std.proofs.Common.{sym, ◌∙◌}
use Rattle.cell_heap.specs.Contents.{name_of}
use Rattle.cell_heap.proofs.NumberedLemmas.{numbered-there}
use Rattle.c_runner_deeds.proofs.CellsLemmas.{count_out}
use Rattle.c_runner_deeds.proofs.cells.Cells.count.Goals as goal

pub returns-clause-there : goal.returns-clause-there
returns-clause-there c =
    rw (← c.self.view_is) (c.count.ensures.there ∙ sym (numbered-there c.self.inside.heap (name_of c.args.key) (rw c.self.view_is c.requires)))

pub returns-clause-count : goal.returns-clause-count
returns-clause-count c =
    rw (← c.self.view_is) (count_out c.self.inside.heap (name_of c.args.key) (rw c.self.view_is c.requires) c.count.result c.count.ensures.count)
