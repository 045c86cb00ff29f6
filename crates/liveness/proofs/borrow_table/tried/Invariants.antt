use Rattle.std.proofs.Common.{take}
use Rattle.liveness.specs.Spread.{AreTried}
use Rattle.liveness.proofs.borrow_table.tried.Given as goal

abbrev pub invariant-loop-b : goal.invariant-loop-b
invariant-loop-b l = AreTried l.known l.edges l.r (take l.b-index l.writers) l.work.items
