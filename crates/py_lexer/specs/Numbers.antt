-- Integers (Python Language Reference, "Integer literals"), up to 2^127 - 1.
use Rattle.std.specs.Prelude.{ℕ, ◌^◌, Bool, true, false, not, ◌&&◌, ◌||◌, ◌==◌, nat_lt, if◌then◌else◌, List, [], ◌∷◌, filter, Option, Some, None, pos, Ok, Err}
use Rattle.std.specs.Char.{is_digit, is_ascii_digit}
use Rattle.std.specs.Str.{byte}
use Rattle.std.specs.Str.Parse.{digits_value}
use Rattle.std.specs.List.{list_all}
use Rattle.py_syntax.specs.declared.token.TokenKind.{TokenKind}
use Rattle.py_syntax.specs.declared.token.TokenKind.TheVariants.{Int}
use Rattle.py_lexer.specs.declared.fault.LexKind.TheVariants.{BadNumber}
use Rattle.py_lexer.specs.declared.placed.Placed.{Placed}
use Rattle.py_lexer.specs.Places.{character_at, line_of}
use Rattle.py_lexer.specs.Reading.{Fault, Read}
use Rattle.py_lexer.specs.Words.{word_at, past_word}

abbrev pub is_underscore : ℕ → Bool
is_underscore c = c == byte "_"

-- what is left of a row of digits without its underscores
abbrev pub digits_of : List ℕ → List ℕ
digits_of cs = filter (λ c. not (is_underscore c)) cs

abbrev pub begins_with_digit : List ℕ → Bool
begins_with_digit [] = false
begins_with_digit (c ∷ cs) = not (is_underscore c)

-- no underscore stands at the end or before another one
abbrev pub is_spaced : List ℕ → Bool
is_spaced [] = true
is_spaced (c ∷ cs) = (not (is_underscore c) || begins_with_digit cs) && is_spaced cs

-- digits of a base, each with at most one underscore before it
abbrev pub is_row : ℕ → List ℕ → Bool
is_row base cs = is_spaced cs && list_all (λ c. is_digit c base) (digits_of cs)

-- the number that they write, where there is a digit and the number is small enough
abbrev pub below_end : ℕ → Option ℕ
below_end n = if nat_lt n (2 ^ 127) then Some n else None

abbrev pub row : ℕ → List ℕ → Option ℕ
row base [] = None
row base (c ∷ cs) =
    if is_row base (c ∷ cs) then below_end (digits_value base (digits_of (c ∷ cs))) else None

-- a decimal begins with a digit, and with 0 only if it is 0
abbrev pub unless_zero_leads : ℕ → Option ℕ → Option ℕ
unless_zero_leads c None = None
unless_zero_leads c (Some n) = if c == byte "0" && not (n == 0) then None else Some n

abbrev pub decimal : List ℕ → Option ℕ
decimal [] = None
decimal (c ∷ cs) = if is_ascii_digit c then unless_zero_leads c (row 10 (c ∷ cs)) else None

-- the base that a letter behind a leading 0 names
abbrev pub base_of : ℕ → Option ℕ
base_of c =
    if c == byte "x" || c == byte "X" then Some 16
    else (if c == byte "o" || c == byte "O" then Some 8
    else (if c == byte "b" || c == byte "B" then Some 2 else None))

abbrev pub in_base : Option ℕ → List ℕ → List ℕ → Option ℕ
in_base (Some base) behind all = row base behind
in_base None behind all = decimal all

-- the number that a whole word of digits, letters and underscores writes
abbrev pub numeral : List ℕ → Option ℕ
numeral [] = None
numeral (c ∷ []) = decimal (c ∷ [])
numeral (c ∷ d ∷ cs) = in_base (if c == byte "0" then base_of d else None) cs (c ∷ d ∷ cs)

-- a number begins with a digit; a dot before a digit begins a fraction, which is none
abbrev pub begins_number : List Placed → Bool
begins_number cs =
    is_ascii_digit (character_at 0 cs) || (character_at 0 cs == byte "." && is_ascii_digit (character_at 1 cs))

abbrev pub number_or_fault : Option ℕ → List Placed → Fault → Read TokenKind
number_or_fault None rest f = Err f
number_or_fault (Some n) rest f = Ok (Int (pos n), rest)

-- no dot follows a number
unfoldable pub number : List Placed → Read TokenKind
number cs =
    if character_at 0 (past_word cs) == byte "." then Err (line_of cs, BadNumber)
    else number_or_fault (numeral (word_at cs)) (past_word cs) (line_of cs, BadNumber)
