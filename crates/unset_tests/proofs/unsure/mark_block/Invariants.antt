use Rattle.std.proofs.Common.{◌≡◌, ◌<◌, ◌⊎◌, ℕ, true, false, length, get_or}
use Rattle.unset_tests.specs.Walk.{leave_unset}
use Rattle.unset_tests.proofs.unsure.mark_block.Given as goal

abbrev pub invariant-loop-first : goal.invariant-loop-first
invariant-loop-first l = record {
  size : length l.unsure ≡ length l.fn.unsure;
  marks : (r : ℕ) → leave_unset l.regs r l.ops ≡ true → r < length l.fn.unsure → (get_or l.unsure r false ≡ true) ⊎ (leave_unset l.regs r l.rest ≡ true);
  keeps : (r : ℕ) → get_or l.fn.unsure r false ≡ true → get_or l.unsure r false ≡ true;
}

abbrev pub decreases-loop-first : goal.decreases-loop-first
decreases-loop-first l = length l.rest
