use Rattle.refcount_insert_runs_laws.proofs.Whole as proof
use Rattle.refcount_insert_runs_laws.proofs.laws.counted_runs_follow.Goals as goal

pub returns : goal.returns
returns c = proof.counted_runs_follow
