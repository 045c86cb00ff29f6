use Rattle.source_meaning.proofs.Longer.{continues}
use Rattle.source_meaning.proofs.laws.longer_runs_continue.Goals as goal

pub returns : goal.returns
returns c = continues
