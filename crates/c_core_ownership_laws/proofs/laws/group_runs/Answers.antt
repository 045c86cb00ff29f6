use Rattle.c_core_ownership_laws.proofs.GroupRuns.{group_law}
use Rattle.c_core_ownership_laws.proofs.laws.group_runs.Goals as goal

pub returns : goal.returns
returns c = group_law
