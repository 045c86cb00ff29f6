use Rattle.c_core.proofs.SmallSteps.{step_stays_small}
use Rattle.c_core.proofs.laws.step_stays_small.Goals as goal

pub returns : goal.returns
returns c = step_stays_small
