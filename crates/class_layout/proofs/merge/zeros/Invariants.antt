use Rattle.std.proofs.Common.{◌≡◌, ℕ, length, get_or}
use Rattle.class_layout.proofs.merge.zeros.Given as goal

abbrev pub invariant-loop : goal.invariant-loop
invariant-loop l =
    record {
      zeros : (c : ℕ) → get_or l.all c 0 ≡ 0;
      long : length l.all ≡ l.counter;
    }
