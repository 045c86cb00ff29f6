use Rattle.ir_core.proofs.BareLemmas.{bare_is_same}
use Rattle.ir_core.proofs.laws.bare_is_same.Goals as goal

pub returns : goal.returns
returns c = bare_is_same
