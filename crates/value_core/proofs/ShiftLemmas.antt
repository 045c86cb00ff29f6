-- Shifts as products and quotients by powers of two.
use Rattle.std.proofs.Common.{cond, nat_lt, pow-add, ◌≤ℤ◌, ◌≡◌, ◌≢◌, refl, sym, ◌∙◌, ap, subst, ℕ, zero, suc, ◌+◌, ◌-◌, ◌*◌, ◌/◌, ◌%◌, ◌<◌, ◌≤◌, ◌^◌, arith, true, false, Option, Ok, Err}
use Rattle.std.specs.Prelude.{ℤ, pos, negsuc, neg_ℤ, nat_abs, ◌*ℤ◌, SomeIff}
use Rattle.std.specs.Option.{ok_or}
use Rattle.std.specs.Int.{cast_signed, cast_unsigned, int_wrap, w64, w128}
use Rattle.std.specs.Int.Signed.{lt_z}
use Rattle.std.proofs.lemmas.Int.{ints, to_z-of_z, to_z_pos, wrapping_mul-bits, int_wrap-mul_right}
use Rattle.std.proofs.lemmas.Nat.{pow_below}
use Rattle.std.proofs.Math.Nat.{one-mul, mod-eq_of_lt, div-eq_of_lt, pow-le-pow_right}
use mir.Val.{SFits}
use Rattle.value_core.specs.declared.arith.Arith.TheVariants.{Overflow, OutOfRange}
use Rattle.value_core.specs.Arithmetic.{as_int, int_shl, int_shr, i64_shl}
use Rattle.value_core.proofs.Ranges.{kept, as_int-past, as_int-checked, times-times, fits-smaller}

-- 1 shifted to the left is a power of two
pub one_shifted : (n : ℕ) → n < 127 → cast_signed w128 (1 * 2 ^ n % 2 ^ 128) ≡ pos (2 ^ n)
one_shifted n l =
    let below : 2 ^ n < 2 ^ 127 = pow_below n 127 l in
    let wider : n < 128 = omega (arith, l) in
    let within : 2 ^ n < 2 ^ 128 = pow_below n 128 wider in
    ap (λ k. cast_signed w128 (k % 2 ^ 128)) (one-mul (2 ^ n)) ∙ ap (cast_signed w128) (mod-eq_of_lt within) ∙ to_z_pos w128 (2 ^ n) below

power_fits : (n : ℕ) → n < 127 → SFits w128 (pos (2 ^ n))
power_fits n l = record { sfits = pow_below n 127 l }

-- a factor that is a power of two, as it is kept
factor : (p : ℤ) (n : ℕ) → p ≡ pos (2 ^ n) → n < 127 → kept p ≡ pos (2 ^ n)
factor p n e l = ap kept e ∙ to_z-of_z w128 (pos (2 ^ n)) (power_fits n l)

halves : (n h : ℕ) → h ≤ n → 2 ^ h * 2 ^ (n - h) ≡ 2 ^ n
halves n h l = let whole : h + (n - h) ≡ n = omega (arith, l) in sym (pow-add 2 h (n - h)) ∙ ap (λ k. 2 ^ k) whole

-- where half the doublings are past the range, so are all of them
pub doubled_past : (a p : ℤ) (n h : ℕ) → SFits w128 a → h ≤ n → h < 127 → p ≡ pos (2 ^ h) → (SFits w128 (kept a *ℤ kept p) → ⊥) → Err Overflow ≡ as_int (a *ℤ pos (2 ^ n))
doubled_past a p n h fa l small e past =
    let two : 0 < 2 = omega arith in
    let same : kept a *ℤ kept p ≡ a *ℤ pos (2 ^ h) = rw (to_z-of_z w128 a fa, factor p h e small) refl in
    sym (as_int-past (a *ℤ pos (2 ^ n)) (λ f. past (subst (SFits w128) (sym same) (fits-smaller a (2 ^ h) (2 ^ n) (pow-le-pow_right two l) f))))

pub doubled_whole : (a p q first : ℤ) (n h : ℕ) (o : Option ℤ) → SFits w128 a → h ≤ n → h < 127 → n - h < 127 → p ≡ pos (2 ^ h) → q ≡ pos (2 ^ (n - h)) → SFits w128 (kept a *ℤ kept p) → first ≡ kept a *ℤ kept p → SomeIff o (SFits w128 (kept first *ℤ kept q)) (kept first *ℤ kept q) → ok_or o Overflow ≡ as_int (a *ℤ pos (2 ^ n))
doubled_whole a p q first n h o fa l small small2 ep eq fits is some =
    let same : kept a *ℤ kept p ≡ a *ℤ pos (2 ^ h) = rw (to_z-of_z w128 a fa, factor p h ep small) refl in
    let fits2 : SFits w128 (a *ℤ pos (2 ^ h)) = subst (SFits w128) same fits in
    let kf : kept first ≡ a *ℤ pos (2 ^ h) = ap kept (is ∙ same) ∙ to_z-of_z w128 (a *ℤ pos (2 ^ h)) fits2 in
    let product : kept first *ℤ kept q ≡ a *ℤ pos (2 ^ n) =
    rw (kf, factor q (n - h) eq small2) (times-times a (2 ^ h) (2 ^ (n - h)) ∙ ap (λ k. a *ℤ pos k) (halves n h l))
    in
    as_int-checked o (a *ℤ pos (2 ^ n)) (subst (λ z. SomeIff o (SFits w128 z) z) product some)

-- ---- counts past the width
far : (n : ℕ) → 127 < n → 2 ^ 128 ≤ 2 ^ n
far n l = let two : 0 < 2 = omega arith in let next : 128 ≤ n = omega (arith, l) in pow-le-pow_right two next

at_least : (k m : ℕ) → m ≤ suc k * m
at_least k m = grind arith

not_fits : (a : ℤ) (m : ℕ) → a ≢ pos 0 → 2 ^ 128 ≤ m → SFits w128 (a *ℤ pos m) → ⊥
not_fits (pos zero) m n l f = n refl
not_fits (pos (suc a)) m n l f = omega (arith, l, f.sfits, at_least a m)
not_fits (negsuc a) m n l f = below_fits (suc a * m) (omega (arith, l, at_least a m)) f
  where
    below_fits : (k : ℕ) → 2 ^ 128 ≤ k → SFits w128 (neg_ℤ (pos k)) → ⊥
    below_fits zero h g = omega (arith, h)
    below_fits (suc k) h g = omega (arith, h, g.sfits)

not_zero : (a : ℤ) → (cast_unsigned w128 a ≡ 0 → ⊥) → a ≢ pos 0
not_zero a n e = n (ap (cast_unsigned w128) e)

pub shl_past : (a n : ℤ) → SFits w128 n → (cast_unsigned w128 a ≡ 0 → ⊥) → lt_z (pos 127) (kept n) ≡ true → Err Overflow ≡ int_shl a n
shl_past a (pos n) f z t =
    let over : 127 < n = grind (arith, ints, to_z-of_z w128 (pos n) f, t) in
    sym (as_int-past (a *ℤ pos (2 ^ n)) (not_fits a (2 ^ n) (not_zero a z) (far n over)))
shl_past a (negsuc n) f z t = absurd (grind (arith, ints, to_z-of_z w128 (negsuc n) f, t))

small_over : (m n : ℕ) → m < 2 ^ 127 → 127 ≤ n → m / 2 ^ n ≡ 0
small_over m n l h = let two : 0 < 2 = omega arith in let up : 2 ^ 127 ≤ 2 ^ n = pow-le-pow_right two h in let below : m < 2 ^ n = omega (arith, l, up) in div-eq_of_lt below

-- a number shifted to the right by at least its width leaves its sign
pub shr_far_negative : (a n : ℤ) → SFits w128 a → SFits w128 n → lt_z (kept n) (pos 0) ≡ false → lt_z (kept n) (pos 127) ≡ false → lt_z (kept a) (pos 0) ≡ true → Ok (negsuc 0) ≡ int_shr a n
shr_far_negative (pos a) n fa fn t u v = absurd (grind (arith, ints, to_z-of_z w128 (pos a) fa, v))
shr_far_negative (negsuc a) (negsuc n) fa fn t u v = absurd (grind (arith, ints, to_z-of_z w128 (negsuc n) fn, t))
shr_far_negative (negsuc a) (pos n) fa fn t u v =
    let wide : 127 ≤ n = grind (arith, ints, to_z-of_z w128 (pos n) fn, u) in
    ap (λ k. Ok (negsuc k)) (sym (small_over a n fa.sfits wide))

pub shr_far_positive : (a n : ℤ) → SFits w128 a → SFits w128 n → lt_z (kept n) (pos 0) ≡ false → lt_z (kept n) (pos 127) ≡ false → lt_z (kept a) (pos 0) ≡ false → Ok (pos 0) ≡ int_shr a n
shr_far_positive (negsuc a) n fa fn t u v = absurd (grind (arith, ints, to_z-of_z w128 (negsuc a) fa, v))
shr_far_positive (pos a) (negsuc n) fa fn t u v = absurd (grind (arith, ints, to_z-of_z w128 (negsuc n) fn, t))
shr_far_positive (pos a) (pos n) fa fn t u v =
    let wide : 127 ≤ n = grind (arith, ints, to_z-of_z w128 (pos n) fn, u) in
    ap (λ k. Ok (pos k)) (sym (small_over a n fa.sfits wide))

-- ---- 64 bits
wrapped_power : (k : ℕ) → k < 64 → int_wrap w64 (pos (2 ^ k)) ≡ cast_signed w64 (2 ^ k)
unfolding int_wrap
wrapped_power k l = ap (cast_signed w64) (mod-eq_of_lt (pow_below k 64 l))

bits_fit : (a : ℤ) → SFits w64 a → cast_unsigned w64 a < 2 ^ 64
bits_fit (pos n) f = omega (arith, f.sfits)
bits_fit (negsuc n) f = omega (arith, f.sfits)

-- the bits shifted to the left are those of the product
shl_bits : (a : ℤ) (k : ℕ) → SFits w64 a → k < 64 → cast_signed w64 (cast_unsigned w64 a * 2 ^ k % 2 ^ 64) ≡ int_wrap w64 (a *ℤ pos (2 ^ k))
shl_bits a k f l =
    wrapping_mul-bits w64 (cast_unsigned w64 a) (2 ^ k) (bits_fit a f) (pow_below k 64 l)
    ∙ ap (λ b. int_wrap w64 (b *ℤ cast_signed w64 (2 ^ k))) (to_z-of_z w64 a f)
    ∙ ap (λ b. int_wrap w64 (a *ℤ b)) (sym (wrapped_power k l))
    ∙ int_wrap-mul_right w64 a (pos (2 ^ k))

pub shl_within : (a n : ℤ) → SFits w64 a → SFits w64 n → pos 0 ≤ℤ n → n ≤ℤ pos 63 → Ok (cast_signed w64 (cast_unsigned w64 a * 2 ^ nat_abs (cast_signed w64 (cast_unsigned w64 n)) % 2 ^ 64)) ≡ i64_shl a n
shl_within a (negsuc n) fa fn low high = absurd (omega (arith, ints, low))
shl_within a (pos n) fa fn low high =
    let l : n < 64 = omega (arith, ints, high) in
    let tested : nat_lt n 64 ≡ true = grind (arith, l) in
    ap (λ z. Ok (cast_signed w64 (cast_unsigned w64 a * 2 ^ nat_abs z % 2 ^ 64))) (to_z-of_z w64 (pos n) fn)
    ∙ ap Ok (shl_bits a n fa l) ∙ ap (λ t. cond t (Ok (int_wrap w64 (a *ℤ pos (2 ^ n)))) (Err OutOfRange)) (sym tested)
