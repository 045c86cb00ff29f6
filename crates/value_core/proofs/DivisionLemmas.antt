-- Floor division and its remainder by way of `/` and `%`, which round toward zero.
use Rattle.std.proofs.Common.{◌≡◌, refl, sym, ◌∙◌, ap, ℕ, zero, suc, ◌+◌, ◌*◌, ◌/◌, ◌%◌, ◌<◌, ◌≤◌, ◌≢◌, arith, Bool, true, false, cond}
use Rattle.std.specs.Prelude.{ℤ, pos, negsuc, neg_ℤ, ◌+ℤ◌, ◌-ℤ◌, ◌*ℤ◌, int_div, int_rem}
use Rattle.std.proofs.Common.{subst, Ok, ◌^◌}
use Rattle.std.specs.Prelude.{Result}
use Rattle.std.specs.Int.{cast_unsigned, w128}
use Rattle.std.specs.Int.Signed.{mag, mag_rem}
use Rattle.std.proofs.lemmas.Int.{ints, quot-rem, rem_is, to_z-of_z}
use Rattle.std.proofs.Math.IntN.{pred_ℤ, pred_ℤ-*ℤ}
use mir.Val.{SFits}
use Rattle.std.proofs.Math.Nat.{div-le_self, le_trans, le-suc}
use Rattle.value_core.specs.declared.arith.Arith.{Arith}
use Rattle.std.proofs.lemmas.Nat.{div-mul-add}
use Rattle.std.proofs.Math.Nat.{div-add-mod, mod-lt, zero-mod, zero-div}
use Rattle.value_core.specs.Arithmetic.{floor_div, modulo, as_int, unless_zero, int_floor_div, int_modulo}
use Rattle.value_core.specs.Division.{rounds_down}
use Rattle.value_core.proofs.Ranges.{kept, as_int-fits}

-- one before a multiple of b + 1
before_multiple : (a b q : ℕ) → suc a ≡ suc q * suc b → a / suc b ≡ q
before_multiple a b q e =
    let split : a ≡ q * suc b + b = omega (arith, e) in
    let low : b < suc b = omega arith in
    ap (λ n. n / suc b) split ∙ div-mul-add q (suc b) b low

-- one before any other number
before_other : (a b q r : ℕ) → suc a ≡ q * suc b + suc r → suc r < suc b → a / suc b ≡ q
before_other a b q r e l =
    let split : a ≡ q * suc b + r = omega (arith, e) in
    let low : r < suc b = omega (arith, l) in
    ap (λ n. n / suc b) split ∙ div-mul-add q (suc b) r low

-- the floor of -(a + 1) / (b + 1) and of (a + 1) / -(b + 1), where q and r are the quotient and the rest of a + 1 and b + 1
below_zero : (a b q r : ℕ) (k : ℤ) → suc a ≡ q * suc b + r → r < suc b → rounds_down k k ≡ false → negsuc (a / suc b) ≡ cond (rounds_down (neg_ℤ (pos r)) (pos (suc b))) (neg_ℤ (pos q) -ℤ pos 1) (neg_ℤ (pos q))
below_zero a b zero zero k e l t = absurd (omega (arith, e))
below_zero a b (suc q) zero k e l t =
    let whole : suc a ≡ suc q * suc b = omega (arith, e) in
    ap negsuc (before_multiple a b q whole)
below_zero a b zero (suc r) k e l t = ap negsuc (before_other a b zero r e l)
below_zero a b (suc q) (suc r) k e l t =
    let next : a / suc b ≡ suc (q + 0) = before_other a b (suc q) r e l ∙ omega arith in
    ap negsuc next

same_rest : (r b : ℕ) → rounds_down (pos r) (negsuc b) ≡ rounds_down (neg_ℤ (pos r)) (pos (suc b))
same_rest zero b = refl
same_rest (suc r) b = refl

like_signs : (r b : ℕ) → rounds_down (pos r) (pos b) ≡ false
like_signs zero b = refl
like_signs (suc r) b = refl

like_signs_below : (r b : ℕ) → rounds_down (neg_ℤ (pos r)) (negsuc b) ≡ false
like_signs_below zero b = refl
like_signs_below (suc r) b = refl

quotient_and_rest : (a b : ℕ) → suc a ≡ suc a / suc b * suc b + suc a % suc b
quotient_and_rest a b = omega (arith, div-add-mod (suc a) (suc b))

rest_below : (a b : ℕ) → suc a % suc b < suc b
rest_below a b = let some : zero < suc b = omega arith in mod-lt (suc a) some

-- the floor is the quotient, or one below
pub floor_div-quotient : (a b : ℤ) → b ≢ pos 0 → floor_div a b ≡ cond (rounds_down (int_rem a b) b) (int_div a b -ℤ pos 1) (int_div a b)
floor_div-quotient a (pos zero) n = absurd (n refl)
floor_div-quotient (pos a) (pos (suc b)) n = rw (like_signs (a % suc b) (suc b)) refl
floor_div-quotient (negsuc a) (pos (suc b)) n =
    below_zero a b (suc a / suc b) (suc a % suc b) (pos 0) (quotient_and_rest a b) (rest_below a b) refl
floor_div-quotient (pos zero) (negsuc b) n = rw (zero-mod (suc b), zero-div (suc b)) refl
floor_div-quotient (pos (suc a)) (negsuc b) n =
    rw (same_rest (suc a % suc b) b) (below_zero a b (suc a / suc b) (suc a % suc b) (pos 0) (quotient_and_rest a b) (rest_below a b) refl)
floor_div-quotient (negsuc a) (negsuc b) n = rw (like_signs_below (suc a % suc b) b) refl

minus_one : (q : ℤ) → q -ℤ pos 1 ≡ pred_ℤ q
minus_one (pos zero) = refl
minus_one (pos (suc n)) = omega (arith, ints)
minus_one (negsuc n) = let same : suc (n + 0) ≡ suc n = omega arith in ap negsuc same

one_less : (q b : ℤ) → (q -ℤ pos 1) *ℤ b ≡ q *ℤ b -ℤ b
one_less q b = ap (λ p. p *ℤ b) (minus_one q) ∙ pred_ℤ-*ℤ q b

left_below : (a b q r : ℤ) → q *ℤ b +ℤ r ≡ a → a -ℤ (q -ℤ pos 1) *ℤ b ≡ r +ℤ b
left_below a b q r e = rw (one_less q b) (omega (arith, ints, e))

left_same : (a b q r : ℤ) → q *ℤ b +ℤ r ≡ a → a -ℤ q *ℤ b ≡ r
left_same a b q r e = omega (arith, ints, e)

modulo_by : (a b : ℤ) (t : Bool) → floor_div a b ≡ cond t (int_div a b -ℤ pos 1) (int_div a b) → modulo a b ≡ cond t (int_rem a b +ℤ b) (int_rem a b)
modulo_by a b true e = ap (λ f. a -ℤ f *ℤ b) e ∙ left_below a b (int_div a b) (int_rem a b) (quot-rem a b)
modulo_by a b false e = ap (λ f. a -ℤ f *ℤ b) e ∙ left_same a b (int_div a b) (int_rem a b) (quot-rem a b)

-- what is left is the rest, or the divisor more
pub modulo-rest : (a b : ℤ) → b ≢ pos 0 → modulo a b ≡ cond (rounds_down (int_rem a b) b) (int_rem a b +ℤ b) (int_rem a b)
modulo-rest a b n = modulo_by a b (rounds_down (int_rem a b) b) (floor_div-quotient a b n)

-- ---- as the code computes them
not_zero : (b : ℤ) → (cast_unsigned w128 b ≡ 0 → ⊥) → b ≢ pos 0
not_zero b n e = n (ap (cast_unsigned w128) e)

pub unless_zero-some : (b : ℤ) (r : Result ℤ Arith) → b ≢ pos 0 → unless_zero b r ≡ r
unless_zero-some (pos zero) r n = absurd (n refl)
unless_zero-some (pos (suc b)) r n = refl
unless_zero-some (negsuc b) r n = refl

small : (z : ℤ) (m : ℕ) → mag z ≤ m → m < 2 ^ 127 → SFits w128 z
small z m l f = record { sfits = omega (arith, l, f) }

-- the floor fits where the quotient does
pub floor_div-fits : (a b : ℤ) → SFits w128 a → SFits w128 (int_div a b) → SFits w128 (floor_div a b)
floor_div-fits (pos a) (pos b) f g = small (pos (a / b)) a (div-le_self a b) f.sfits
floor_div-fits (negsuc a) (pos b) f g = small (negsuc (a / b)) a (div-le_self a b) f.sfits
floor_div-fits (pos zero) (negsuc b) f g = record { sfits = f.sfits }
floor_div-fits (pos (suc a)) (negsuc b) f g = small (negsuc (a / suc b)) (suc a) (le_trans (div-le_self a (suc b)) (le-suc a)) f.sfits
floor_div-fits (negsuc a) (negsuc b) f g = g

pub floor_answer : (a b q : ℤ) → SFits w128 a → SFits w128 b → (cast_unsigned w128 b ≡ 0 → ⊥) → SFits w128 (int_div (kept a) (kept b)) → q ≡ int_div (kept a) (kept b) → Ok (kept (cond (rounds_down (kept (int_rem (kept a) (kept b))) (kept b)) (kept q -ℤ pos 1) q)) ≡ int_floor_div a b
floor_answer a b q fa fb n fq e =
    let ka : kept a ≡ a = to_z-of_z w128 a fa in
    let kb : kept b ≡ b = to_z-of_z w128 b fb in
    let kr : kept (int_rem (kept a) (kept b)) ≡ int_rem a b = rem_is w128 a b fa fb in
    let pair : int_div (kept a) (kept b) ≡ int_div a b = rw (ka, kb) refl in
    let fits : SFits w128 (int_div a b) = subst (SFits w128) pair fq in
    let whole : q ≡ int_div a b = e ∙ pair in
    let kq : kept q ≡ int_div a b = ap kept whole ∙ to_z-of_z w128 (int_div a b) fits in
    let inner : cond (rounds_down (kept (int_rem (kept a) (kept b))) (kept b)) (kept q -ℤ pos 1) q ≡ floor_div a b =
    rw (kr, kb, kq, whole) (sym (floor_div-quotient a b (not_zero b n))) in
    let floor_fits : SFits w128 (floor_div a b) = floor_div-fits a b fa fits in
    ap (λ z. Ok (kept z)) inner ∙ ap Ok (to_z-of_z w128 (floor_div a b) floor_fits) ∙ sym (as_int-fits (floor_div a b) floor_fits)
    ∙ sym (unless_zero-some b (as_int (floor_div a b)) (not_zero b n))

-- what is left and the divisor fit, and so does their sum where their signs differ
sum_fits : (r b : ℤ) → SFits w128 r → SFits w128 b → rounds_down r b ≡ true → SFits w128 (r +ℤ b)
sum_fits (pos zero) b f g t = absurd (cc)
sum_fits (pos (suc r)) (pos b) f g t = absurd (cc)
sum_fits (pos (suc r)) (negsuc b) f g t = grind (arith, ints)
sum_fits (negsuc r) (pos b) f g t = grind (arith, ints)
sum_fits (negsuc r) (negsuc b) f g t = absurd (cc)

rest_fits : (r b : ℤ) (t : Bool) → SFits w128 r → SFits w128 b → rounds_down r b ≡ t → SFits w128 (cond t (r +ℤ b) r)
rest_fits r b true f g e = sum_fits r b f g e
rest_fits r b false f g e = f

int_rem-fits : (a b : ℤ) → SFits w128 a → SFits w128 (int_rem a b)
int_rem-fits a b f = small (int_rem a b) (mag a) (mag_rem a b) f.sfits

pub rest_answer : (a b r : ℤ) → SFits w128 a → SFits w128 b → (cast_unsigned w128 b ≡ 0 → ⊥) → r ≡ int_rem (kept a) (kept b) → Ok (kept (cond (rounds_down (kept r) (kept b)) (kept r +ℤ kept b) r)) ≡ int_modulo a b
rest_answer a b r fa fb n e =
    let ka : kept a ≡ a = to_z-of_z w128 a fa in
    let kb : kept b ≡ b = to_z-of_z w128 b fb in
    let rest : r ≡ int_rem a b = e ∙ rw (ka, kb) refl in
    let fr : SFits w128 (int_rem a b) = int_rem-fits a b fa in
    let kr : kept r ≡ int_rem a b = ap kept rest ∙ to_z-of_z w128 (int_rem a b) fr in
    let inner : cond (rounds_down (kept r) (kept b)) (kept r +ℤ kept b) r ≡ modulo a b = rw (kr, kb, rest) (sym (modulo-rest a b (not_zero b n))) in
    let fits : SFits w128 (modulo a b) =
    subst (SFits w128) (sym (modulo-rest a b (not_zero b n))) (rest_fits (int_rem a b) b (rounds_down (int_rem a b) b) fr fb refl)
    in
    ap (λ z. Ok (kept z)) inner ∙ ap Ok (to_z-of_z w128 (modulo a b) fits) ∙ sym (unless_zero-some b (Ok (modulo a b)) (not_zero b n))
