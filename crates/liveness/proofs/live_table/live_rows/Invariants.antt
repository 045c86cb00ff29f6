use Rattle.std.proofs.Common.{◌≡◌, length}
use Rattle.liveness.specs.Rows.{AreFound}
use Rattle.liveness.proofs.live_table.live_rows.Given as goal

abbrev pub invariant-loop-r : goal.invariant-loop-r
invariant-loop-r l = record {
  size : length l.rows ≡ length l.fn.rows;
  found : AreFound l.touches l.readers l.edges l.r l.rows;
}
