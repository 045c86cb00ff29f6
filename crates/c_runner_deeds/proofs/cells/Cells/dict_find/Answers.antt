use Rattle.std.proofs.Common.{◌∙◌}
use Rattle.cell_heap.specs.Contents.{name_of}
use Rattle.c_runner_deeds.proofs.CellsLemmas.{find_there, find_place}
use Rattle.c_runner_deeds.proofs.cells.Cells.dict_find.Goals as goal

pub returns-clause-there : goal.returns-clause-there
returns-clause-there c =
    rw (← c.self.view_is) (c.dict_find.ensures.there ∙ find_there c.self.inside.heap (name_of c.args.dict) c.args.key (rw c.self.view_is c.requires.ours) (rw c.self.view_is c.requires.key))

pub returns-clause-place : goal.returns-clause-place
returns-clause-place c =
    rw (← c.self.view_is) (find_place c.self.inside.heap (name_of c.args.dict) c.args.key c.self.invariant (rw c.self.view_is c.requires.ours) (rw c.self.view_is c.requires.key) c.dict_find.result c.dict_find.ensures.place)
