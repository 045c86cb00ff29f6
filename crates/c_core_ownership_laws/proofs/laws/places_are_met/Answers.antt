use Rattle.c_core_ownership_laws.specs.Order.{Entered, labels_of}
use Rattle.c_core_ownership_laws.proofs.Placed.{placed_kept}
use Rattle.c_core_ownership_laws.proofs.Runs.{reached_met}
use Rattle.c_core_ownership_laws.proofs.laws.places_are_met.Goals as goal

pub returns : goal.returns
returns c = λ code t placed. reached_met code (Entered (labels_of code t)) (Entered t) (placed_kept code t placed)
