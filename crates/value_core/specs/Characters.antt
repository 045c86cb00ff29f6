-- The code points of a text (Python Language Reference, "Standard type hierarchy", strings). A text is its bytes in UTF-8,
-- and `chars` are the code points that they spell.
use Rattle.std.specs.Prelude.{ℕ, suc, ◌+◌, ◌-◌, cond, nat_lt, List, length, take, ℤ, pos, negsuc, Option, Some, None}
use Rattle.std.specs.Option.{option_map}
use Rattle.std.specs.Str.{chars, encode_utf8_all}

abbrev pub char_len : List ℕ → ℕ
char_len text = length (chars text)

-- the place in a sequence of n items that an index means: one that is negative counts from the end
abbrev pub place_of : ℕ → ℤ → Option ℕ
place_of n (pos i) = cond (nat_lt i n) (Some i) None
place_of n (negsuc i) = cond (nat_lt i n) (Some (n - suc i)) None

-- how many bytes stand before the code point of number k, and how many after it begins the next
abbrev pub bytes_before : List ℕ → ℕ → ℕ
bytes_before text k = length (encode_utf8_all (take k (chars text)))

abbrev pub char_range : List ℕ → ℕ → ℕ × ℕ
char_range text k = (bytes_before text k, bytes_before text (k + 1))

-- the bytes of the code point at an index
abbrev pub char_at : List ℕ → ℤ → Option (ℕ × ℕ)
char_at text i = option_map (char_range text) (place_of (char_len text) i)
