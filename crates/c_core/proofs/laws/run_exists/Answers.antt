use Rattle.c_core.proofs.Bounds.{run_exists}
use Rattle.c_core.proofs.laws.run_exists.Goals as goal

pub returns : goal.returns
returns c = run_exists
