-- Functions of numbers that are changed at one place, lists of numbers, and the rule's numbers over plain variables.
use Rattle.std.proofs.Common.{◌≡◌, refl, sym, ap, ◌∙◌, ℕ, zero, suc, ◌+◌, ◌-◌, ◌≤◌, ◌⊎◌, inl, inr, ⊎_elim, Bool, true, false, cond, arith}
use Rattle.std.specs.Prelude.{nat_eq, ◌||◌, not}
use Rattle.c_core.specs.Cells.{same}
use Rattle.c_core_ownership_laws.specs.Shares.{put, one_if}
use Rattle.liveness.proofs.RisingLemmas.{eq_tells}

pub ext : {A : Type 0} {f g : ℕ → A} → ((r : ℕ) → f r ≡ g r) → f ≡ g
ext e = λ i r. e r i

pub eq_self : (x : ℕ) → nat_eq x x ≡ true
eq_self x =
    ⊎_elim (λ t. t.0) (λ f. absurd (f.1 refl)) (eq_tells x x)

pub eq_not : (x r : ℕ) → (x ≡ r → ⊥) → nat_eq x r ≡ false
eq_not x r ne =
    ⊎_elim (λ t. absurd (ne t.1)) (λ f. f.0) (eq_tells x r)

pub eq_suc : (x r : ℕ) → nat_eq x r ≡ nat_eq (suc x) (suc r)
eq_suc x r =
    ⊎_elim (λ t. t.0 ∙ (sym (eq_self (suc x)) ∙ ap (λ z. nat_eq (suc x) (suc z)) t.1)) (λ f. f.0 ∙ sym (eq_not (suc x) (suc r) (λ e. f.1 (omega (arith, e))))) (eq_tells x r)

pub put_is : {A : Type 0} (x : ℕ) (a : A) (k : ℕ → A) (r : ℕ) → put x a k r ≡ cond (nat_eq x r) a (k r)
put_is zero a k zero = refl
put_is zero a k (suc r) = ap (λ c. cond c a (k (suc r))) (sym (eq_not 0 (suc r) (λ e. omega (arith, e))))
put_is (suc x) a k zero = ap (λ c. cond c a (k 0)) (sym (eq_not (suc x) 0 (λ e. omega (arith, e))))
put_is (suc x) a k (suc r) = put_is x a (λ j. k (suc j)) r ∙ ap (λ c. cond c a (k (suc r))) (eq_suc x r)

-- nothing is marked, and the mark of one number is taken away
pub put_off : (x : ℕ) (h : ℕ → Bool) → ((r : ℕ) → h r ≡ false) → (r : ℕ) → put x false h r ≡ false
put_off zero h off zero = refl
put_off zero h off (suc r) = off (suc r)
put_off (suc x) h off zero = off 0
put_off (suc x) h off (suc r) = put_off x (λ j. h (suc j)) (λ j. off (suc j)) r

pub same_is : (x r : ℕ) → same x r ≡ one_if (nat_eq x r)
same_is zero zero = refl
same_is zero (suc r) = ap one_if (sym (eq_not 0 (suc r) (λ e. omega (arith, e))))
same_is (suc x) zero = ap one_if (sym (eq_not (suc x) 0 (λ e. omega (arith, e))))
same_is (suc x) (suc r) = same_is x r ∙ ap one_if (eq_suc x r)

pub same_self : (x : ℕ) → same x x ≡ 1
same_self zero = refl
same_self (suc x) = same_self x

pub put-more : (x : ℕ) (k : ℕ → ℕ) (r : ℕ) → put x (k x + 1) k r ≡ k r + same x r
put-more zero k zero = refl
put-more zero k (suc r) = omega arith
put-more (suc x) k zero = omega arith
put-more (suc x) k (suc r) = put-more x (λ j. k (suc j)) r

pub put-less : (x : ℕ) (k : ℕ → ℕ) (r : ℕ) → put x (k x - 1) k r ≡ k r - same x r
put-less zero k zero = refl
put-less zero k (suc r) = omega arith
put-less (suc x) k zero = omega arith
put-less (suc x) k (suc r) = put-less x (λ j. k (suc j)) r

pub either : (b : Bool) → (b ≡ true) ⊎ (b ≡ false)
either true = inl refl
either false = inr refl

-- a number that stands in a list
pub same_found : (x r : ℕ) → 1 ≤ same x r → nat_eq x r ≡ true
same_found x r le = found (nat_eq x r) (omega (arith, le, same_is x r))
  where
    found : (b : Bool) → 1 ≤ one_if b → b ≡ true
    found true l = refl
    found false l = absurd (omega (arith, l))

pub or_left : (a b : Bool) → a ≡ true → (a || b) ≡ true
or_left true b e = refl
or_left false b e = absurd (cc)

pub or_right : (a b : Bool) → b ≡ true → (a || b) ≡ true
or_right true b e = refl
or_right false b e = e

pub or_none : (a b : Bool) → (a || b) ≡ false → (a ≡ false) × (b ≡ false)
or_none true b e = absurd (cc)
or_none false b e = (refl, e)

pub not_true : (a : Bool) → not a ≡ true → a ≡ false
not_true true e = absurd (cc)
not_true false e = refl

pub some_of : (a b : ℕ) → 1 ≤ a + b → (1 ≤ a) ⊎ (1 ≤ b)
some_of zero b le = inr (omega (arith, le))
some_of (suc a) b le = inl (omega arith)

-- ---- one register in a group
-- what a register is short of is taken before, if it is counted
pub is_short : (c : Bool) (u n h : ℕ) → u ≡ cond c (n - h) 0 → 1 ≤ u → (c ≡ true) × (1 ≤ n)
is_short true u n h e le = (refl, omega (arith, e, le))
is_short false u n h e le = absurd (omega (arith, e, le))

-- what is left of it is what the rule calls done
pub done_is : (c t : Bool) (n k h u b tk g : ℕ) → k ≡ h + u - tk → u ≡ b → b ≡ cond c b 0 → (c ≡ false → h ≡ 0) → (t ≡ true → n ≡ cond c g 0) → cond t n k ≡ cond c (cond t g (h + b - tk)) 0
done_is true true n k h u b tk g ek eu eb eh en = en refl
done_is true false n k h u b tk g ek eu eb eh en = omega (arith, ek, eu)
done_is false true n k h u b tk g ek eu eb eh en = en refl
done_is false false n k h u b tk g ek eu eb eh en = omega (arith, ek, eu, eb, eh refl)

-- what is wanted is there when the operation is done
pub wanted_is : (t : Bool) (w g h tk : ℕ) → w ≤ g → w ≤ cond t g (h + (tk + cond t 0 w - h) - tk)
wanted_is true w g h tk le = le
wanted_is false w g h tk le = omega arith

-- what is over is given up
pub given_is : (c : Bool) (d w p a : ℕ) → p ≡ cond c d 0 → a ≡ cond c (d - w) 0 → (c ≡ true → w ≤ d) → (c ≡ false → w ≡ 0) → (a ≤ p) × (w ≡ p - a)
given_is true d w p a ep ea le z = (omega (arith, ep, ea), omega (arith, ep, ea, le refl))
given_is false d w p a ep ea le z = (omega (arith, ep, ea), omega (arith, ep, ea, z refl))
