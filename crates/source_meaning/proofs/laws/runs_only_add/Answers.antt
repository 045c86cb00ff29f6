use Rattle.source_meaning.proofs.OnlyAdds.{only_adds}
use Rattle.source_meaning.proofs.laws.runs_only_add.Goals as goal

pub returns : goal.returns
returns c = only_adds
