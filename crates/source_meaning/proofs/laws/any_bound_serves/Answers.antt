use Rattle.source_meaning.proofs.AnyBound.{any_bound}
use Rattle.source_meaning.proofs.laws.any_bound_serves.Goals as goal

pub returns : goal.returns
returns c = any_bound
