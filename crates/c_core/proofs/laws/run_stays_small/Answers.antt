use Rattle.c_core.proofs.Bounds.{run_stays_small}
use Rattle.c_core.proofs.laws.run_stays_small.Goals as goal

pub returns : goal.returns
returns c = run_stays_small
