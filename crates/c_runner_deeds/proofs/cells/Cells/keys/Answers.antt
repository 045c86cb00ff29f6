use Rattle.c_runner_deeds.proofs.CellsLemmas.{keys_out, numbers_out}
use Rattle.c_runner_deeds.proofs.cells.Cells.keys.Goals as goal

pub returns-clause-numbers : goal.returns-clause-numbers
returns-clause-numbers c =
    rw (← c.self.view_is) (numbers_out c.self.inside.heap c.keys.result c.keys.ensures.numbers)

pub returns-clause-ours : goal.returns-clause-ours
returns-clause-ours c =
    rw (← c.self.view_is) (keys_out c.self.inside.heap c.keys.result c.keys.ensures.keys c.keys.ensures.numbers)
