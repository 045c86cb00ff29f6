-- Numbers that fit 128 bits, and what reads and tests make of them.
use Rattle.std.proofs.Common.{◌≡◌, refl, sym, ◌∙◌, ap, ℕ, zero, suc, ◌*◌, ◌<◌, ◌≤◌, ◌^◌, arith, true, false, cond, Option, Some, None, Ok, Err}
use Rattle.std.specs.Prelude.{ℤ, pos, negsuc, neg_ℤ, ◌*ℤ◌, SomeIff}
use Rattle.std.specs.Option.{ok_or}
use Rattle.std.specs.Int.{cast_signed, cast_unsigned, w128}
use Rattle.std.specs.Int.Signed.{mag}
use Rattle.std.proofs.Math.Nat.{mul_assoc, zero-mul, mul-le-mul_left}
use mir.Val.{SFits}
use Rattle.value_core.specs.declared.arith.Arith.TheVariants.{Overflow}
use Rattle.value_core.specs.Arithmetic.{lies_within, as_int}

-- what a value that is kept in 128 bits reads as
abbrev pub kept : ℤ → ℤ
kept z = cast_signed w128 (cast_unsigned w128 z)

lies_within-fits : (z : ℤ) → SFits w128 z → lies_within 127 z ≡ true
lies_within-fits (pos n) f = grind (arith, f.sfits)
lies_within-fits (negsuc n) f = grind (arith, f.sfits)

lies_within-past : (z : ℤ) → (SFits w128 z → ⊥) → lies_within 127 z ≡ false
lies_within-past (pos n) f =
    let past : (n < 2 ^ 127) → ⊥ = λ l. f (record { sfits = l }) in
    grind (arith, past)
lies_within-past (negsuc n) f =
    let past : (n < 2 ^ 127) → ⊥ = λ l. f (record { sfits = l }) in
    grind (arith, past)

pub as_int-fits : (z : ℤ) → SFits w128 z → as_int z ≡ Ok z
as_int-fits z f = ap (λ t. cond t (Ok z) (Err Overflow)) (lies_within-fits z f)

pub as_int-past : (z : ℤ) → (SFits w128 z → ⊥) → as_int z ≡ Err Overflow
as_int-past z f = ap (λ t. cond t (Ok z) (Err Overflow)) (lies_within-past z f)

-- the answer of a checked operation
pub as_int-checked : (o : Option ℤ) (z : ℤ) → SomeIff o (SFits w128 z) z → ok_or o Overflow ≡ as_int z
as_int-checked None z h = sym (as_int-past z h)
as_int-checked (Some x) z h = ap Ok h.1 ∙ sym (as_int-fits z h.0)

neg-times : (k n : ℕ) → neg_ℤ (pos k) *ℤ pos n ≡ neg_ℤ (pos (k * n))
neg-times zero n = rw (zero-mul n) refl
neg-times (suc k) n = refl

-- a product by two naturals
pub times-times : (a : ℤ) (m n : ℕ) → (a *ℤ pos m) *ℤ pos n ≡ a *ℤ pos (m * n)
times-times (pos a) m n = ap pos (mul_assoc a m n)
times-times (negsuc a) m n = neg-times (suc a * m) n ∙ ap (λ k. neg_ℤ (pos k)) (mul_assoc (suc a) m n)

neg-smaller : (k l : ℕ) → k ≤ l → mag (neg_ℤ (pos k)) ≤ mag (neg_ℤ (pos l))
neg-smaller zero l h = omega arith
neg-smaller (suc k) zero h = omega (arith, h)
neg-smaller (suc k) (suc l) h = omega (arith, h)

mag-times : (a : ℤ) (m n : ℕ) → m ≤ n → mag (a *ℤ pos m) ≤ mag (a *ℤ pos n)
mag-times (pos a) m n h = mul-le-mul_left a h
mag-times (negsuc a) m n h = neg-smaller (suc a * m) (suc a * n) (mul-le-mul_left (suc a) h)

-- a product fits where one by a greater number does
pub fits-smaller : (a : ℤ) (m n : ℕ) → m ≤ n → SFits w128 (a *ℤ pos n) → SFits w128 (a *ℤ pos m)
fits-smaller a m n h f = record { sfits = omega (arith, mag-times a m n h, f.sfits) }
