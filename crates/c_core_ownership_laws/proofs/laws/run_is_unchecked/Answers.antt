use Rattle.c_core_ownership_laws.specs.Order.{Entered}
use Rattle.c_core_ownership_laws.proofs.Placed.{ChecksAt, order_kept}
use Rattle.c_core_ownership_laws.proofs.AlikeRuns.{run_alike}
use Rattle.c_core_ownership_laws.proofs.laws.run_is_unchecked.Goals as goal

pub returns : goal.returns
returns c = λ code t order. run_alike code (Entered t) (ChecksAt code t order) (order_kept code t order)
