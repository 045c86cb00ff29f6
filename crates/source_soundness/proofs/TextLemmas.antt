-- Texts in UTF-8: what stays so, and the texts of numbers.
use Rattle.std.proofs.Common.{◌≡◌, ℕ, zero, suc, nat_lt, ◌<◌, ◌^◌, arith, ℤ, pos, negsuc, Bool, true, ◌&&◌, List, [], ◌∷◌, ◌++◌, refl, ap, ◌∙◌}
use Rattle.std.proofs.lemmas.Bool.Decides.{nat_tests}
use Rattle.std.proofs.lemmas.Fmt.{IsAscii-decimal_wide}
use Rattle.std.proofs.lemmas.Str.{IsUtf8-append, IsUtf8-from_ascii, IsUtf8-from_is_utf8, is_utf8-from_IsUtf8, scalars-chars}
use lib.Utf8.{scalar, scalars}
use Rattle.std.specs.Fmt.{decimal, signed_decimal}
use Rattle.std.specs.List.{list_all}
use Rattle.std.specs.Str.{chars, encode_utf8_all, is_utf8, IsAscii}
use Rattle.value_core.specs.Arithmetic.{lies_within}
use Rattle.py_typed.proofs.FitLemmas.{and_left, and_right}

-- ASCII
abbrev pub is_ascii_text : List ℕ → Bool
is_ascii_text text = list_all (λ c. nat_lt c 128) text

ascii : (text : List ℕ) → is_ascii_text text ≡ true → IsAscii text
ascii [] h i = omega arith
ascii (c ∷ cs) h zero = let low = and_left (nat_lt c 128) (is_ascii_text cs) h in grind (arith, nat_tests, low)
ascii (c ∷ cs) h (suc i) = ascii cs (and_right (nat_lt c 128) (is_ascii_text cs) h) i

pub ascii_text : (text : List ℕ) → is_ascii_text text ≡ true → is_utf8 text ≡ true
ascii_text text h = is_utf8-from_IsUtf8 text (IsUtf8-from_ascii text (ascii text h))

-- one behind the other
pub text_behind : (a b : List ℕ) → is_utf8 a ≡ true → is_utf8 b ≡ true → is_utf8 (a ++ b) ≡ true
text_behind a b p q = is_utf8-from_IsUtf8 (a ++ b) (IsUtf8-append a b (IsUtf8-from_is_utf8 a p) (IsUtf8-from_is_utf8 b q))

-- a name behind a text, with one of ASCII behind it
pub text_around : (a b c : List ℕ) → is_utf8 a ≡ true → is_utf8 b ≡ true → is_ascii_text c ≡ true → is_utf8 (a ++ b ++ c) ≡ true
text_around a b c p q r = text_behind (a ++ b) c (text_behind a b p q) (ascii_text c r)

decimal_text : (n : ℕ) → n < 10 ^ 64 → is_utf8 (decimal n) ≡ true
decimal_text n l = is_utf8-from_IsUtf8 (decimal n) (IsUtf8-from_ascii (decimal n) (IsAscii-decimal_wide n l))

-- the text of an `int`
pub number_text : (z : ℤ) → lies_within 127 z ≡ true → is_utf8 (signed_decimal z) ≡ true
number_text (pos n) e = decimal_text n (grind (arith, nat_tests, e))
number_text (negsuc n) e = text_behind (45 ∷ []) (decimal (suc n)) (ascii_text (45 ∷ []) refl) (decimal_text (suc n) (grind (arith, nat_tests, e)))

-- one code point of a text
letters_by : (cs : List ℕ) → scalars cs ≡ true → list_all (λ c. is_utf8 (encode_utf8_all (c ∷ []))) cs ≡ true
letters_by [] h = refl
letters_by (c ∷ cs) h =
    ap (λ b. b && list_all (λ c. is_utf8 (encode_utf8_all (c ∷ []))) cs) (is_utf8-from_IsUtf8 (encode_utf8_all (c ∷ [])) (c ∷ [], (one _ (and_left _ (scalars cs) h), refl))) ∙ letters_by cs (and_right (scalar c) (scalars cs) h)
  where
    one : (b : Bool) → b ≡ true → (b && true) ≡ true
    one b e = ap (λ x. x && true) e

pub letter_texts : (text : List ℕ) → is_utf8 text ≡ true → list_all (λ c. is_utf8 (encode_utf8_all (c ∷ []))) (chars text) ≡ true
letter_texts text h = letters_by (chars text) (scalars-chars text (IsUtf8-from_is_utf8 text h))
