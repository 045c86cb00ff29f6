use Rattle.c_core_ownership_laws.proofs.EndOwns.{end_counts}
use Rattle.c_core_ownership_laws.proofs.laws.end_owns_nothing.Goals as goal

pub returns : goal.returns
returns c = end_counts
