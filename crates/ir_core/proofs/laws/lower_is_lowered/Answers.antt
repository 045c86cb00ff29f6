use Rattle.ir_core.proofs.LowerLemmas.{lower_is_lowered}
use Rattle.ir_core.proofs.laws.lower_is_lowered.Goals as goal

pub returns : goal.returns
returns c = lower_is_lowered
