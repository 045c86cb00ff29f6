use Rattle.ir_core.proofs.RunLemmas.{steps_on}
use Rattle.ir_core.proofs.laws.steps_compose.Goals as goal

pub returns : goal.returns
returns c = steps_on
