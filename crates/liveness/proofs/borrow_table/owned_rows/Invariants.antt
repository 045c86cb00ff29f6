use Rattle.std.proofs.Common.{◌≡◌, length}
use Rattle.liveness.specs.Spread.{AreSpread}
use Rattle.liveness.proofs.borrow_table.owned_rows.Given as goal

abbrev pub invariant-loop-r : goal.invariant-loop-r
invariant-loop-r l = record {
  size : length l.rows ≡ length l.fn.rows;
  spread : AreSpread l.known l.writers l.edges l.r l.rows;
}
