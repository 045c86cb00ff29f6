-- Digits: their characters, and the value of a row of them.
use Rattle.std.proofs.Common.{◌≡◌, ℕ, zero, suc, ◌+◌, ◌*◌, ◌^◌, ◌<◌, ◌≤◌, Bool, true, false, not, List, [], ◌∷◌, map, length, Some, refl, ap, sym, ◌∙◌, arith, ◌⊎◌, inl, inr, eqb-true, eq-or-lt_of_le, lt-ltb, slice_get, get_or, pow-suc, add-mul, mul_assoc, mul_comm, ltb-true, zero-mul, zero-add}
use Rattle.std.specs.Prelude.{◌==◌, ◌||◌, ◌&&◌, nat_lt}
use Rattle.std.specs.Char.{is_digit, digit_value}
use Rattle.std.specs.List.{list_all}
use Rattle.std.specs.Str.Parse.{digits_value, digits_value_after}
use Rattle.std.proofs.lemmas.List.{length-map}
use Rattle.std.proofs.lemmas.Option.{get_or_from_slice_get}
use Rattle.std.proofs.Math.Nat.{pow-zero}
use Rattle.py_lexer.specs.Digits.{digits_lower, digits_upper, IsDigit, AreDigits, place_value}
use Rattle.py_lexer.proofs.Spelled.{one_true, first_true, second_true}

-- what passes for each number below a bound, by trying
abbrev passes_below : ℕ → (ℕ → Bool) → Bool
passes_below zero p = true
passes_below (suc n) p = p n && passes_below n p

below_case : (n k : ℕ) (p : ℕ → Bool) → (p n && passes_below n p) ≡ true → (k < n → p k ≡ true) → (k ≡ n) ⊎ (k < n) → p k ≡ true
below_case n k p h more (inl is) = ap p is ∙ first_true _ _ h
below_case n k p h more (inr less) = more less

all_below : (n : ℕ) (p : ℕ → Bool) → passes_below n p ≡ true → (k : ℕ) → k < n → p k ≡ true
all_below zero p h k lt = absurd (omega arith)
all_below (suc n) p h k lt =
    let le : k ≤ n = omega arith in
    below_case n k p h (λ less. all_below n p (second_true (p n) _ h) k less) (eq-or-lt_of_le le)

-- the character that a list has at a place is c
abbrev has_at : List ℕ → ℕ → ℕ → Bool
has_at [] i c = false
has_at (x ∷ xs) zero c = x == c
has_at (x ∷ xs) (suc i) c = has_at xs i c

has_at_is : (xs : List ℕ) (i c : ℕ) → has_at xs i c ≡ true → slice_get xs i ≡ Some c
has_at_is [] i c h = cc
has_at_is (x ∷ xs) zero c h = ap Some (eqb-true x c h)
has_at_is (x ∷ xs) (suc i) c h = has_at_is xs i c h

abbrev is_in_tables : ℕ → Bool
is_in_tables c = not (nat_lt (digit_value c) 16) || (has_at digits_lower (digit_value c) c || has_at digits_upper (digit_value c) c)

tables : passes_below 128 is_in_tables ≡ true
tables = refl

low : (c : ℕ) → nat_lt (digit_value c) 16 ≡ true → c < 128
low c h = grind arith

in_tables : (c : ℕ) (b : Bool) → nat_lt (digit_value c) 16 ≡ true → b ≡ true → b ≡ (not true || (has_at digits_lower (digit_value c) c || has_at digits_upper (digit_value c) c)) → (slice_get digits_lower (digit_value c) ≡ Some c) ⊎ (slice_get digits_upper (digit_value c) ≡ Some c)
in_tables c b h holds is =
    elim (one_true (has_at digits_lower (digit_value c) c) (has_at digits_upper (digit_value c) c) (sym is ∙ holds)) [
      | inl l ↦ inl (has_at_is digits_lower (digit_value c) c l)
      | inr u ↦ inr (has_at_is digits_upper (digit_value c) c u)
    ]

pub digit_is : (base c : ℕ) → base ≤ 16 → is_digit c base ≡ true → IsDigit base c (digit_value c)
digit_is base c small h =
    let lt : digit_value c < base = ltb-true (digit_value c) base h in
    let here : nat_lt (digit_value c) 16 ≡ true = lt-ltb (digit_value c) 16 (omega arith) in
    (lt, in_tables c (is_in_tables c) here (all_below 128 is_in_tables tables c (low c here)) (ap (λ b. not b || (has_at digits_lower (digit_value c) c || has_at digits_upper (digit_value c) c)) here))

-- the value of digits by their places
horner : (base value d n p : ℕ) → (value * base + d) * base ^ n + p ≡ value * base ^ suc n + (d * base ^ n + p)
horner base value d n p =
    let e : base ^ suc n ≡ base * base ^ n = pow-suc base n ∙ mul_comm (base ^ n) base in
    let f : (value * base + d) * base ^ n ≡ value * base * base ^ n + d * base ^ n = add-mul (value * base) d (base ^ n) in
    let g : value * base * base ^ n ≡ value * (base * base ^ n) = mul_assoc value base (base ^ n) in
    let h : value * base ^ suc n ≡ value * (base * base ^ n) = ap (λ x. value * x) e in
    omega arith

value_after : (base value : ℕ) (cs : List ℕ) → digits_value_after base value cs ≡ value * base ^ length cs + place_value base (map digit_value cs)
value_after base value [] =
    let e : value ≡ value * 1 + 0 = omega arith in
    e ∙ ap (λ x. value * x + 0) (sym (pow-zero base))
value_after base value (c ∷ cs) =
    value_after base (value * base + digit_value c) cs
    ∙ horner base value (digit_value c) (length cs) (place_value base (map digit_value cs))
    ∙ ap (λ n. value * base ^ suc (length cs) + (digit_value c * base ^ n + place_value base (map digit_value cs))) (sym (length-map cs digit_value))

pub value_is : (base : ℕ) (cs : List ℕ) → digits_value base cs ≡ place_value base (map digit_value cs)
value_is base cs = value_after base 0 cs ∙ ap (λ x. x + place_value base (map digit_value cs)) (zero-mul (base ^ length cs)) ∙ zero-add (place_value base (map digit_value cs))

pub are_digits : (base : ℕ) (cs : List ℕ) → base ≤ 16 → list_all (λ c. is_digit c base) cs ≡ true → AreDigits base (map digit_value cs) cs
are_digits base [] small h = refl
are_digits base (c ∷ cs) small h =
    (c, cs, refl, digit_is base c small (first_true _ _ h), are_digits base cs small (second_true (is_digit c base) _ h))

-- the tables give each digit its value
abbrev is_valued : ℕ → Bool
is_valued d = digit_value (get_or digits_lower d 0) == d && digit_value (get_or digits_upper d 0) == d

valued : (d : ℕ) → d < 16 → is_valued d ≡ true
valued d lt = all_below 16 is_valued refl d lt

pub digit_back : (base c d : ℕ) → base ≤ 16 → IsDigit base c d → is_digit c base ≡ true
digit_back base c d small h =
    let v = valued d (omega (arith, h.0)) in
    let is : digit_value c ≡ d = elim h.1 [
      | inl l ↦ ap digit_value (sym (get_or_from_slice_get digits_lower d c 0 l)) ∙ eqb-true _ d (first_true _ _ v)
      | inr u ↦ ap digit_value (sym (get_or_from_slice_get digits_upper d c 0 u)) ∙ eqb-true _ d (second_true (digit_value (get_or digits_lower d 0) == d) _ v)
    ] in
    lt-ltb (digit_value c) base (omega (arith, h.0))
