use Rattle.ir_core.proofs.RunLemmas.{ended_is_calm}
use Rattle.ir_core.proofs.laws.ended_is_calm.Goals as goal

pub returns : goal.returns
returns c = ended_is_calm
