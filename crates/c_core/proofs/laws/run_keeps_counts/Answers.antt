use Rattle.c_core.proofs.KeepsCounts.{run_keeps_counts}
use Rattle.c_core.proofs.laws.run_keeps_counts.Goals as goal

pub returns : goal.returns
returns c = run_keeps_counts
