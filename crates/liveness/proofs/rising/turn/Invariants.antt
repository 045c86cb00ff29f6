use Rattle.std.proofs.Common.{◌≡◌, ◌<◌, ℕ, [], length, take, get_or}
use Rattle.liveness.specs.Rising.{rows_with}
use Rattle.liveness.proofs.rising.turn.Given as goal

abbrev pub invariant-loop-number : goal.invariant-loop-number
invariant-loop-number l = record {
  size : length l.inverse ≡ length l.fn.inverse;
  turned : (k : ℕ) → k < length l.fn.inverse → get_or l.inverse k [] ≡ rows_with 0 (take l.number l.rows) k;
}
