use Rattle.c_core.specs.Machine.{refs_in}
use Rattle.c_core.proofs.Order.{any_order}
use Rattle.c_core.proofs.laws.release_in_any_order.Goals as goal

pub returns : goal.returns
returns c = any_order refs_in
