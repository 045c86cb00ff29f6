use Rattle.std.proofs.Common.{◌≤◌, ◌<◌, ◌-◌, ℕ, length, get_or}
use Rattle.liveness.proofs.rising.count_below.Given as goal

abbrev pub invariant-loop-low : goal.invariant-loop-low
invariant-loop-low l = record {
  ordered : l.low ≤ l.high;
  within : l.high ≤ length l.numbers;
  below : (i : ℕ) → i < l.low → get_or l.numbers i 0 < l.bound;
  behind : (i : ℕ) → l.high ≤ i → i < length l.numbers → l.bound ≤ get_or l.numbers i 0;
}

abbrev pub decreases-loop-low : goal.decreases-loop-low
decreases-loop-low l = l.high - l.low
