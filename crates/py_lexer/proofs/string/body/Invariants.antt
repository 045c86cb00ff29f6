use Rattle.std.proofs.Common.{◌≡◌, ℕ, ◌≤◌, length}
use Rattle.py_lexer.specs.Strings as spec
use Rattle.py_lexer.proofs.string.body.Given as goal

abbrev pub invariant-elements : goal.invariant-elements
invariant-elements l = record {
  within : length l.rest ≤ length l.all;
  so_far : (n : ℕ) → length l.all ≤ n → (m : ℕ) × (length l.rest ≤ m) × (spec.body n l.style l.all ≡ spec.with_front l.out.items (spec.body m l.style l.rest));
}

abbrev pub decreases-elements : goal.decreases-elements
decreases-elements l = length l.rest
