-- What a division leaves, beside the divisor.
use Rattle.std.proofs.Common.{sym, subst, zero, suc, ◌<◌, ◌≢◌, arith, cond}
use Rattle.std.specs.Prelude.{ℤ, pos, negsuc, ◌+ℤ◌, ◌≤ℤ◌, ◌<ℤ◌, int_rem, unsigned_abs}
use Rattle.std.proofs.lemmas.Int.{ints, rem_below}
use Rattle.value_core.specs.Arithmetic.{modulo}
use Rattle.value_core.specs.Division.{rounds_down}
use Rattle.value_core.specs.Laws.{RestIsNear}
use Rattle.value_core.proofs.DivisionLemmas.{modulo-rest}

-- r lies between 0 and b, on b's side
abbrev IsNear : ℤ → ℤ → Type 0
IsNear b r = (pos 0 <ℤ b → (pos 0 ≤ℤ r) × (r <ℤ b)) × (b <ℤ pos 0 → (b <ℤ r) × (r ≤ℤ pos 0))

-- what `%` leaves, with the divisor added where it has the other sign
near : (r b : ℤ) → unsigned_abs r < unsigned_abs b → IsNear b (cond (rounds_down r b) (r +ℤ b) r)
near (pos zero) b l = (λ p. (omega (arith, ints), p), λ n. (n, omega (arith, ints)))
near (pos (suc r)) (pos b) l = (λ p. (omega (arith, ints), omega (arith, ints, l)), λ n. absurd (omega (arith, ints, n)))
near (pos (suc r)) (negsuc b) l = (λ p. absurd (omega (arith, ints, p)), λ n. (omega (arith, ints), omega (arith, ints, l)))
near (negsuc r) (pos b) l = (λ p. (omega (arith, ints, l), omega (arith, ints)), λ n. absurd (omega (arith, ints, n)))
near (negsuc r) (negsuc b) l = (λ p. absurd (omega (arith, ints, p)), λ n. (omega (arith, ints, l), omega (arith, ints)))

near_some : (a b : ℤ) → b ≢ pos 0 → 0 < unsigned_abs b → IsNear b (modulo a b)
near_some a b n l = subst (IsNear b) (sym (modulo-rest a b n)) (near (int_rem a b) b (rem_below a b l))

pub rest_near : RestIsNear
rest_near a (pos zero) = (λ p. absurd (omega (arith, ints, p)), λ n. absurd (omega (arith, ints, n)))
rest_near a (pos (suc b)) = near_some a (pos (suc b)) (λ e. cc) (omega arith)
rest_near a (negsuc b) = near_some a (negsuc b) (λ e. cc) (omega arith)
