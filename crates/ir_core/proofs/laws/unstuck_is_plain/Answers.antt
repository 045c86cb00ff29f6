use Rattle.ir_core.proofs.ModeLemmas.{unstuck_is_plain}
use Rattle.ir_core.proofs.laws.unstuck_is_plain.Goals as goal

pub returns : goal.returns
returns c = unstuck_is_plain
