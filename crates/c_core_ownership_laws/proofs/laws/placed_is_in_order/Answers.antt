use Rattle.c_core_ownership_laws.proofs.Placed.{placed_in_order}
use Rattle.c_core_ownership_laws.proofs.laws.placed_is_in_order.Goals as goal

pub returns : goal.returns
returns c = placed_in_order
