use Rattle.ir_core.proofs.BuildingLemmas.{built_is_held}
use Rattle.ir_core.proofs.laws.built_is_held.Goals as goal

pub returns : goal.returns
returns c = built_is_held
