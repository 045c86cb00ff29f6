use Rattle.c_runner_deeds.proofs.OursLemmas.{cell_own}
use Rattle.c_runner_deeds.proofs.state.State.cell_variable.Goals as goal

pub returns-in-Some-Cell-clause-ours : goal.returns-in-Some-Cell-clause-ours
returns-in-Some-Cell-clause-ours c = cell_own c.args.self.now c.args.x c.in-Some-Cell.field-0.now c.in-Some-Cell.key c.in-Some-Cell.ensures.value c.in-Some-Cell.field-0-is
