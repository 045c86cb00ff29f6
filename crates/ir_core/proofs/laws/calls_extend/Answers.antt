use Rattle.ir_core.proofs.BuildingLemmas.{calls_extend}
use Rattle.ir_core.proofs.laws.calls_extend.Goals as goal

pub returns : goal.returns
returns c = calls_extend
