use Rattle.c_core_ownership_laws.specs.Order.{Entered}
use Rattle.c_core_ownership_laws.proofs.Placed.{ChecksAt, order_kept}
use Rattle.c_core_ownership_laws.proofs.Runs.{run_fine}
use Rattle.c_core_ownership_laws.proofs.laws.order_is_safe.Goals as goal

pub returns : goal.returns
returns c = λ code t order. run_fine code (Entered t) (ChecksAt code t order) (order_kept code t order)
