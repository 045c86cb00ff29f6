-- The decimal of each number of 128 bits is read back as that number, so `CPyTagged_FromText` makes just the numbers that are not short.
use Rattle.std.proofs.Common.{◌≡◌, refl, ◌∙◌, ap, subst, ℕ, suc, ◌<◌, ◌^◌, arith, Bool, true, false, List, [], ◌∷◌, ◌==◌}
use Rattle.std.specs.Prelude.{ℤ, pos, negsuc, neg_ℤ}
use Rattle.std.specs.Char.{digit_value}
use Rattle.std.specs.Fmt.{decimal, signed_decimal}
use Rattle.std.specs.Str.Parse.{IsNumeral, digits_value, signed_digits_value}
use Rattle.std.proofs.lemmas.Bool.{ltb-true, eqb-true}
use Rattle.std.proofs.lemmas.Fmt.{decimal_is_IsNumeral_wide}
use Rattle.value_core.specs.Arithmetic.{lies_within}

-- a sign is no digit
no_sign : (c d : ℕ) (b : Bool) → (c == d) ≡ b → digit_value c < 10 → (digit_value d < 10 → ⊥) → b ≡ false
no_sign c d true e digit sign = absurd (sign (subst (λ x. digit_value x < 10) (eqb-true c d e) digit))
no_sign c d false e digit sign = refl

-- digits without a sign
unsigned_value : (ds : List ℕ) → IsNumeral 10 ds → signed_digits_value 10 ds ≡ pos (digits_value 10 ds)
unsigned_value [] is = absurd (omega (arith, is.0))
unsigned_value (c ∷ cs) is =
    let minus : (c == 45) ≡ false = no_sign c 45 (c == 45) refl is.1.0 (λ l. omega (arith, l)) in
    let plus : (c == 43) ≡ false = no_sign c 43 (c == 43) refl is.1.0 (λ l. omega (arith, l)) in
    rw minus (rw plus refl)

pub read_back : (n : ℤ) → lies_within 127 n ≡ true → signed_digits_value 10 (signed_decimal n) ≡ n
read_back (pos n) within =
    let is = decimal_is_IsNumeral_wide n (omega (arith, ltb-true n (2 ^ 127) within)) in
    unsigned_value (decimal n) is.0 ∙ ap pos is.1
read_back (negsuc n) within =
    let is = decimal_is_IsNumeral_wide (suc n) (omega (arith, ltb-true n (2 ^ 127) within)) in
    ap (λ m. neg_ℤ (pos m)) is.1
