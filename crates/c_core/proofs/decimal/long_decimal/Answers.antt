use Rattle.std.proofs.Common.{◌≡◌, refl, sym, subst, ℕ, suc, ◌<◌, ◌^◌, ◌==◌, arith, ltb-true, eqb-true, Bool, true, false, not, cond, ◌&&◌, List, [], ◌∷◌, drop, Some, None, ℤ, pos, negsuc, FitsSigned}
use Rattle.std.specs.Prelude.{Result, Ok, Err}
use Rattle.std.specs.Char.{digit_value}
use Rattle.std.specs.Fmt.{decimal, signed_decimal}
use Rattle.std.specs.Int.{w128}
use Rattle.std.specs.Str.{bytes_eq}
use Rattle.std.specs.Str.Parse.{IsNumeral, ParsesSigned, signed_digits_value, without_leading_sign}
use Rattle.std.proofs.lemmas.Fmt.{decimal_is_IsNumeral_wide}
use Rattle.std.proofs.lemmas.Int.{ints}
use Rattle.std.proofs.lemmas.Slice.Eq.{bytes_eq-Decides}
use Rattle.value_core.specs.Arithmetic.{lies_within, is_short}
use Rattle.c_core.specs.Strings.{is_long_decimal}
use Rattle.c_core.proofs.decimal.long_decimal.Goals as goal

-- a sign is no digit
no_sign : (c d : ℕ) (b : Bool) → (c == d) ≡ b → digit_value c < 10 → (digit_value d < 10 → ⊥) → b ≡ false
no_sign c d true e digit sign = absurd (sign (subst (λ x. digit_value x < 10) (eqb-true c d e) digit))
no_sign c d false e digit sign = refl

plain_numeral : (ds : List ℕ) → IsNumeral 10 ds → IsNumeral 10 (without_leading_sign ds)
plain_numeral [] is = is
plain_numeral (c ∷ cs) is =
    let minus : (c == 45) ≡ false = no_sign c 45 (c == 45) refl is.1.0 (λ l. omega (arith, l)) in
    let plus : (c == 43) ≡ false = no_sign c 43 (c == 43) refl is.1.0 (λ l. omega (arith, l)) in
    subst (λ b. IsNumeral 10 (cond b cs (drop (cond (c == 43) 1 0) (c ∷ cs)))) (sym minus) (subst (λ b. IsNumeral 10 (drop (cond b 1 0) (c ∷ cs))) (sym plus) is)

-- the decimal of each number of 128 bits is read
printed_parses : (n : ℤ) → lies_within 127 n ≡ true → IsNumeral 10 (without_leading_sign (signed_decimal n)) × FitsSigned w128 n
printed_parses (pos n) within =
    let small : n < 2 ^ 127 = ltb-true n (2 ^ 127) within in
    (plain_numeral (decimal n) (decimal_is_IsNumeral_wide n (omega arith)).0, omega (arith, ints))
printed_parses (negsuc n) within =
    let small : n < 2 ^ 127 = ltb-true n (2 ^ 127) within in
    ((decimal_is_IsNumeral_wide (suc n) (omega arith)).0, omega (arith, ints))

never_long : (a b c : Bool) (n : ℤ) → (a ≡ true → b ≡ true → ⊥) → None ≡ cond (a && (b && c)) (Some n) None
never_long true true c n never = absurd (never refl refl)
never_long true false c n never = refl
never_long false b c n never = refl

-- a text that is not read as a number writes none
not_parsed : {E : Type 0} (bs : List ℕ) (r : Result ℤ E) (e : E) → ParsesSigned w128 10 bs r → r ≡ Err e → None ≡ cond (is_long_decimal bs) (Some (signed_digits_value 10 bs)) None
not_parsed bs (Ok n) e parses is = absurd (cc)
not_parsed bs (Err why) e parses is =
    let n = signed_digits_value 10 bs in
    never_long (bytes_eq (signed_decimal n) bs) (lies_within 127 n) (not (is_short n)) n
    (λ same within.
    let p = printed_parses n within in
    parses (subst (λ t. IsNumeral 10 (without_leading_sign t)) ((bytes_eq-Decides (signed_decimal n) bs).0 same) p.0, p.1))

pub returns-in_default-3 : goal.returns-in_default-3
returns-in_default-3 c = not_parsed c.args.text.now c.parse.result _ c.parse.ensures.value.0 c.in_default.is
