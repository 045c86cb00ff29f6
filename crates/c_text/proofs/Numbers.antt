-- The numbers of a C text: their digits, and that reading them gives them back.
use Rattle.std.proofs.Common.{◌≡◌, ◌≢◌, ◌∙◌, ℕ, ℤ, pos, negsuc, ◌+◌, ◌/◌, ◌%◌, ◌^◌, ◌<◌, ◌≤◌, List, [], ◌∷◌, ◌++◌, length, get_or, Result, Ok, Err, Some, IsTrue, refl, sym, ap, arith, suc, zero, w64}
use Rattle.std.specs.Prelude.{Bool, true, false, cond, ◌==◌, FitsSigned}
use Rattle.std.specs.Fmt.{decimal, digit_glyph, digits, digits_onto, signed_decimal}
use Rattle.std.specs.Str.{IsUtf8}
use Rattle.std.specs.Int.{IsInRange}
use Rattle.std.specs.Str.Parse.{AllDigits, ParsesSigned, ParsesUnsigned, digits_value}
use Rattle.std.proofs.lemmas.Str.{IsUtf8-from_ascii}
use Rattle.std.proofs.lemmas.Str.Parse.{IsNumeralModel, numerals_by_value, tells_digits, digit_at, not_in_digits}
use Rattle.std.proofs.lemmas.Fmt.{decimal_injective, decimal_is_IsNumeral, parse-decimal, parse-signed_decimal, IsAscii-decimal, IsAscii-signed}
use Rattle.std.proofs.lemmas.Bool.{lt-ltb, ltb-true}
use Rattle.std.specs.Int.Signed.{mag}
use Rattle.std.proofs.lemmas.Int.{ints, to_z-of_z}
use mir.Val.{to_z, of_z}
use Rattle.value_core.specs.Arithmetic.{lies_within}
use Rattle.c_core.specs.WellFormed.{spelled_label}
use Rattle.c_text.specs.Words.{HasNo}
use Rattle.c_text.proofs.Bytes.{HasNo-by_place, HasNo-cons}

own : IsNumeralModel (AllDigits 10) (digits_value 10)
own = numerals_by_value (AllDigits 10) tells_digits

-- a number begins with a digit or a minus sign
number_begins : (n : ℤ) → IsTrue (lies_within 63 n) → (0 < length (signed_decimal n)) × (45 ≤ get_or (signed_decimal n) 0 0) × (get_or (signed_decimal n) 0 0 ≤ 57)
number_begins (pos n) h =
    let small : n < 2 ^ 63 = ltb-true n (2 ^ 63) h in
    let d = decimal_is_IsNumeral n (omega arith) in
    let first = digit_at (decimal n) 0 d.0.1 d.0.0 in
    (d.0.0, omega arith, first.1)
number_begins (negsuc n) h = (omega arith, omega arith, omega arith)

decimal_has_no : (stop n : ℕ) → n < 2 ^ 64 → ¬ (IsInRange 48 57 stop) → HasNo stop (decimal n)
decimal_has_no stop n small out =
    HasNo-by_place stop (decimal n) (λ i l. not_in_digits own (decimal n) stop (decimal_is_IsNumeral n small).0.1 out i l)

-- a byte that is no digit and no minus sign does not stand in a number
pub HasNo-number : (stop : ℕ) (n : ℤ) → IsTrue (lies_within 63 n) → ¬ (IsInRange 48 57 stop) → 45 ≢ stop → HasNo stop (signed_decimal n)
HasNo-number stop (pos n) h out minus =
    let small : n < 2 ^ 63 = ltb-true n (2 ^ 63) h in
    decimal_has_no stop n (omega arith) out
HasNo-number stop (negsuc n) h out minus =
    let small : n < 2 ^ 63 = ltb-true n (2 ^ 63) h in
    HasNo-cons stop 45 (decimal (suc n)) minus (decimal_has_no stop (suc n) (omega arith) out)

pub size_of : (n : ℤ) → IsTrue (lies_within 63 n) → mag n < 2 ^ 63
size_of (pos n) h = ltb-true n (2 ^ 63) h
size_of (negsuc n) h = ltb-true n (2 ^ 63) h

fits_of : (n : ℤ) → IsTrue (lies_within 63 n) → FitsSigned w64 n
fits_of n h = omega (arith, ints, size_of n h)

pub IsUtf8-number : (n : ℤ) → IsTrue (lies_within 63 n) → IsUtf8 (signed_decimal n)
IsUtf8-number n h = IsUtf8-from_ascii (signed_decimal n) (IsAscii-signed n (size_of n h))

-- parsing the text of a number gives it
parses_number : {E : Type 0} (n : ℤ) (bs : List ℕ) (r : Result ℤ E) → IsTrue (lies_within 63 n) → signed_decimal n ≡ bs → ParsesSigned w64 10 bs r → r ≡ Ok n
parses_number n bs r h e p = parse-signed_decimal w64 n bs r (fits_of n h) (size_of n h) (sym e) p

pub number_parsed : {E : Type 0} (n read : ℤ) (bs : List ℕ) (r : Result ℤ E) → IsTrue (lies_within 63 n) → signed_decimal n ≡ bs → ParsesSigned w64 10 bs r → r ≡ Ok read → Some (to_z w64 (of_z w64 read)) ≡ Some n
number_parsed n read bs r h e p q =
    let same : read ≡ n = let o : Ok read ≡ Ok n = sym q ∙ parses_number n bs r h e p in cc in
    ap Some (ap (λ z. to_z w64 (of_z w64 z)) same ∙ to_z-of_z w64 n (fits_of n h))

pub number_not_parsed : {E : Type 0} (n : ℤ) (fault : E) (bs : List ℕ) (r : Result ℤ E) → IsTrue (lies_within 63 n) → signed_decimal n ≡ bs → ParsesSigned w64 10 bs r → r ≡ Err fault → ⊥
number_not_parsed n fault bs r h e p q = let o : Err fault ≡ Ok n = sym q ∙ parses_number n bs r h e p in cc

-- no number begins with a letter
pub not_number : (n : ℤ) (b : ℕ) (rest : List ℕ) → IsTrue (lies_within 63 n) → 57 < b → signed_decimal n ≢ b ∷ rest
not_number n b rest h big e = let first = number_begins n h in omega (arith, first.2, ap (λ t. get_or t 0 0) e)

first_of_front : (xs rest : List ℕ) → 0 < length xs → get_or (xs ++ rest) 0 0 ≡ get_or xs 0 0
first_of_front [] rest h = absurd (omega arith)
first_of_front (x ∷ xs) rest h = refl

-- nothing that begins with a number begins with another byte
pub not_number_front : (n : ℤ) (b : ℕ) (behind rest : List ℕ) → IsTrue (lies_within 63 n) → ¬ (IsInRange 45 57 b) → signed_decimal n ++ behind ≢ b ∷ rest
not_number_front n b behind rest h out e =
    let first = number_begins n h in
    let same : get_or (signed_decimal n) 0 0 ≡ b = sym (first_of_front (signed_decimal n) behind first.0) ∙ ap (λ t. get_or t 0 0) e in
    out (omega (arith, first.1), omega (arith, first.2))

pub number_is_some : (n : ℤ) → IsTrue (lies_within 63 n) → signed_decimal n ≢ []
number_is_some n h e = let first = number_begins n h in omega (arith, first.0, ap length e)

pub number_again : (n read : ℤ) → IsTrue (lies_within 63 n) → Some read ≡ Some n → n ≡ to_z w64 (of_z w64 read)
number_again n read h e =
    let same : read ≡ n = cc in
    sym (ap (λ z. to_z w64 (of_z w64 z)) same ∙ to_z-of_z w64 n (fits_of n h))

-- ---- numbers of labels

pub label_small : (n : ℕ) → IsTrue (spelled_label n) → n < 2 ^ 64
label_small n h = ltb-true n (2 ^ 64) h

pub label_fits : (n : ℕ) → n < 2 ^ 64 → IsTrue (spelled_label n)
label_fits n l = lt-ltb n (2 ^ 64) l

pub IsUtf8-label : (n : ℕ) → IsTrue (spelled_label n) → IsUtf8 (decimal n)
IsUtf8-label n h = IsUtf8-from_ascii (decimal n) (IsAscii-decimal n (label_small n h))

pub label_parsed : {E : Type 0} (n read : ℕ) (bs : List ℕ) (r : Result ℕ E) → IsTrue (spelled_label n) → decimal n ≡ bs → ParsesUnsigned 64 10 bs r → r ≡ Ok read → Some read ≡ Some n
label_parsed n read bs r h e p q =
    let o : Ok read ≡ Ok n = sym q ∙ parse-decimal 64 n bs r (label_small n h) (label_small n h) (sym e) p in cc

pub label_not_parsed : {E : Type 0} (n : ℕ) (fault : E) (bs : List ℕ) (r : Result ℕ E) → IsTrue (spelled_label n) → decimal n ≡ bs → ParsesUnsigned 64 10 bs r → r ≡ Err fault → ⊥
label_not_parsed n fault bs r h e p q =
    let o : Err fault ≡ Ok n = sym q ∙ parse-decimal 64 n bs r (label_small n h) (label_small n h) (sym e) p in cc

pub same_label : (n m : ℕ) → IsTrue (spelled_label n) → IsTrue (spelled_label m) → decimal n ≡ decimal m → n ≡ m
same_label n m h k e = decimal_injective n m (label_small n h) (label_small m k) e

-- a number of any size has digits alone
onto_has_no : (stop k n : ℕ) (acc : List ℕ) → ¬ (IsInRange 48 57 stop) → HasNo stop acc → HasNo stop (digits_onto k 10 false n acc)
onto_has_no stop zero n acc out h = h
onto_has_no stop (suc k) n acc out h = split (n / 10 == 0) (onto_has_no stop k (n / 10) (digit_glyph false (n % 10) ∷ acc) out more)
  where
    glyph : digit_glyph false (n % 10) ≡ 48 + n % 10
    glyph = ap (λ b. cond b (48 + n % 10) (87 + n % 10)) (lt-ltb (n % 10) 10 (omega arith))

    more : HasNo stop (digit_glyph false (n % 10) ∷ acc)
    more = HasNo-cons stop (digit_glyph false (n % 10)) acc (λ e. out (omega (arith, glyph, e), omega (arith, glyph, e))) h

    split : (b : Bool) → HasNo stop (digits_onto k 10 false (n / 10) (digit_glyph false (n % 10) ∷ acc)) → HasNo stop (cond b (digit_glyph false (n % 10) ∷ acc) (digits_onto k 10 false (n / 10) (digit_glyph false (n % 10) ∷ acc)))
    split true rest = more
    split false rest = rest

pub HasNo-decimal : (stop n : ℕ) → ¬ (IsInRange 48 57 stop) → HasNo stop (decimal n)
unfolding digits
HasNo-decimal stop n out = onto_has_no stop 64 n [] out refl
