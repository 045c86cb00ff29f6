-- The characters of a text, each with its place. A line ends at LF, CR LF or CR, and the last one also at the end of the text
-- (Python Language Reference, "Physical lines"); each of these ends is read as one LF.
use Rattle.std.specs.Prelude.{ℕ, ◌+◌, ◌-◌, ◌==◌, if◌then◌else◌, Bool, true, List, [], ◌∷◌, ◌++◌, length, map, take, reverse, Option, Some, None, slice_get}
use Rattle.py_syntax.specs.declared.token.Span.{Span}
use Rattle.py_lexer.specs.declared.placed.Placed.{Placed}

abbrev pub byte_order_mark : ℕ
byte_order_mark = 0xFEFF

abbrev pub line_feed_character : ℕ
line_feed_character = 10

abbrev pub carriage_return : ℕ
carriage_return = 13

-- one byte order mark before a text is no part of it
abbrev pub without_mark : List ℕ → List ℕ
without_mark [] = []
without_mark (c ∷ cs) = if c == byte_order_mark then cs else c ∷ cs

-- the first character, or NUL
abbrev pub first : List ℕ → ℕ
first [] = 0
first (c ∷ cs) = c

-- a CR stands for an LF, and directly before an LF for nothing
abbrev pub plain_ends : List ℕ → List ℕ
plain_ends [] = []
plain_ends (c ∷ cs) =
    if c == carriage_return then (if first cs == line_feed_character then plain_ends cs else line_feed_character ∷ plain_ends cs)
    else c ∷ plain_ends cs

-- whether a text, read from its end, has its last line ended
abbrev pub is_ended : List ℕ → Bool
is_ended [] = true
is_ended (c ∷ cs) = c == line_feed_character

abbrev pub ended : List ℕ → List ℕ
ended cs = if is_ended (reverse cs) then cs else cs ++ line_feed_character ∷ []

-- the characters that are read
abbrev pub plain : List ℕ → List ℕ
plain cs = ended (plain_ends (without_mark cs))

abbrev pub start : Span
start = record { line = 1; col = 1 }

-- the place behind a character
abbrev pub behind : ℕ → Span → Span
behind c s = if c == line_feed_character then record { line = s.line + 1; col = 1 } else record { line = s.line; col = s.col + 1 }

-- characters from a place on
abbrev pub placed : Span → List ℕ → List Placed
placed s [] = []
placed s (c ∷ cs) = record { character = c; span = s } ∷ placed (behind c s) cs

-- the place behind them
abbrev pub end_of : Span → List ℕ → Span
end_of s [] = s
end_of s (c ∷ cs) = end_of (behind c s) cs

-- What is left of a text is called its rest.

-- where a rest begins, in a text that ends at `end`
abbrev pub place_of : Span → List Placed → Span
place_of end [] = end
place_of end (c ∷ cs) = c.span

-- the line where a rest begins
abbrev pub line_of : List Placed → ℕ
line_of [] = 0
line_of (c ∷ cs) = c.span.line

abbrev pub character_of : Option Placed → ℕ
character_of None = 0
character_of (Some c) = c.character

-- the character number i of a rest, or NUL past its end
abbrev pub character_at : ℕ → List Placed → ℕ
character_at i cs = character_of (slice_get cs i)

abbrev pub characters : List Placed → List ℕ
characters = map (λ c. c.character)

-- the characters of one rest that stand before another one
abbrev pub front_of : List Placed → List Placed → List ℕ
front_of cs rest = characters (take (length cs - length rest) cs)
