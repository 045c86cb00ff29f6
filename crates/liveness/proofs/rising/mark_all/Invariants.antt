use Rattle.std.proofs.Common.{◌≡◌, ◌<◌, ℕ, [], cond, length, take, get_or}
use Rattle.liveness.specs.Paths.{is_among}
use Rattle.liveness.specs.Rising.{with_number}
use Rattle.liveness.proofs.rising.mark_all.Given as goal

abbrev pub invariant-loop-key : goal.invariant-loop-key
invariant-loop-key l = record {
  size : length l.rows ≡ length l.fn.rows;
  marked : (k : ℕ) → k < length l.fn.rows → get_or l.rows k [] ≡ cond (is_among (take l.key-index l.keys) k) (with_number (get_or l.fn.rows k []) l.number) (get_or l.fn.rows k []);
}
