-- The texts of a program as its primitives see them (Python Language Reference, "Value comparisons"; Python Library Reference,
-- "Text Sequence Type"): their order, their length and their items are those of their code points.
use Rattle.std.specs.Prelude.{ℕ, ◌^◌, ◌-◌, Bool, not, ◌&&◌, cond, nat_lt, ℤ, pos, List, [], ◌∷◌, Option, slice_get}
use Rattle.std.specs.Cmp.Lexicographic.{slice_cmp}
use Rattle.std.specs.Fmt.{signed_decimal}
use Rattle.std.specs.Option.{option_and_then, option_map}
use Rattle.std.specs.Ordering.{nat_cmp, is_lt}
use Rattle.std.specs.Str.{bytes_eq, chars, encode_utf8_all}
use Rattle.std.specs.Str.Parse.{signed_digits_value}
use Rattle.value_core.specs.Arithmetic.{lies_within, is_short}
use Rattle.value_core.specs.Characters.{char_len, place_of}

-- whether a text comes before another one; their bytes have the same order
abbrev pub text_less : List ℕ → List ℕ → Bool
text_less a b = is_lt (slice_cmp nat_cmp (chars a) (chars b))

-- a length as an `int`: one past the greatest `int` counts as that
abbrev pub counted_length : ℕ → ℕ
counted_length n = cond (nat_lt n (2 ^ 127)) n (2 ^ 127 - 1)

abbrev pub text_length : List ℕ → ℤ
text_length text = pos (counted_length (char_len text))

-- the text of the one code point at an index, where it is in range
abbrev pub text_item : List ℕ → ℤ → Option (List ℕ)
text_item text i =
    option_and_then (λ k. option_map (λ c. encode_utf8_all (c ∷ [])) (slice_get (chars text) k)) (place_of (char_len text) i)

-- a text writes this number as it is printed, and the number is an `int` that is not short, so that it has a cell
abbrev pub writes_long : List ℕ → ℤ → Bool
writes_long text n = bytes_eq (signed_decimal n) text && (lies_within 127 n && not (is_short n))

-- the decimal of an `int` that is not short, without a sign `+` and without leading zeros
abbrev pub is_long_decimal : List ℕ → Bool
is_long_decimal text = writes_long text (signed_digits_value 10 text)
