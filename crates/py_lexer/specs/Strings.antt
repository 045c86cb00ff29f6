-- Strings (Python Language Reference, "String and Bytes literals").
use Rattle.std.specs.Prelude.{ℕ, zero, suc, Bool, true, false, not, ◌&&◌, ◌||◌, ◌==◌, nat_lt, if◌then◌else◌, List, [], ◌∷◌, ◌++◌, length, take, drop, map, codes, encode_utf8_all, Option, Some, None, Ok, Err, is_some}
use Rattle.std.specs.Char.{is_digit, to_ascii_lowercase}
use Rattle.std.specs.Str.{byte, bytes_eq}
use Rattle.std.specs.Str.Parse.{digits_value}
use Rattle.std.specs.List.{list_all}
use lib.Utf8.{scalar}
use Rattle.py_syntax.specs.declared.token.TokenKind.{TokenKind}
use Rattle.py_syntax.specs.declared.token.TokenKind.TheVariants.{Str}
use Rattle.py_lexer.specs.declared.fault.LexKind.TheVariants.{BadString, Unended}
use Rattle.py_lexer.specs.declared.placed.Placed.{Placed}
use Rattle.py_lexer.specs.declared.string.Prefix.{Prefix}
use Rattle.py_lexer.specs.declared.string.Prefix.TheVariants.{Plain, Raw, Other}
use Rattle.py_lexer.specs.declared.string.Style.{Style}
use Rattle.py_lexer.specs.Places.{character_at, characters, line_of, line_feed_character}
use Rattle.py_lexer.specs.Reading.{Fault, Read, ◌>>=◌}
use Rattle.py_lexer.specs.Words.{word_at, past_word}

abbrev pub backslash : ℕ
backslash = byte "\\"

abbrev pub is_quote : ℕ → Bool
is_quote c = c == byte "\"" || c == byte "'"

-- the character that a letter or a sign stands for behind a backslash
abbrev pub simple_escape : ℕ → Option ℕ
simple_escape c =
    if c == backslash || is_quote c then Some c
    else (if c == byte "a" then Some 7
    else (if c == byte "b" then Some 8
    else (if c == byte "t" then Some 9
    else (if c == byte "n" then Some 10
    else (if c == byte "v" then Some 11
    else (if c == byte "f" then Some 12
    else (if c == byte "r" then Some 13 else None)))))))

-- the character that digits of a base name, where it is one: no surrogate, and not past 10FFFF
abbrev pub if_scalar : ℕ → Option ℕ
if_scalar n = if scalar n then Some n else None

abbrev pub character_named : ℕ → List ℕ → Option ℕ
character_named base digits =
    if list_all (λ c. is_digit c base) digits then if_scalar (digits_value base digits) else None

abbrev pub named_or_fault : Option ℕ → List Placed → Fault → Read (List ℕ)
named_or_fault None rest f = Err f
named_or_fault (Some c) rest f = Ok (c ∷ [], rest)

-- how many hexadecimal digits follow `\x`, `\u` and `\U`
abbrev pub hex_len : ℕ → ℕ
hex_len c = if c == byte "x" then 2 else (if c == byte "u" then 4 else (if c == byte "U" then 8 else 0))

-- exactly n hexadecimal digits
abbrev pub hex_escape : Fault → ℕ → List Placed → Read (List ℕ)
hex_escape f n cs =
    if nat_lt (length cs) n then Err f else named_or_fault (character_named 16 (characters (take n cs))) (drop n cs) f

-- one to three octal digits
abbrev pub octal_len : List Placed → ℕ
octal_len cs =
    if is_digit (character_at 1 cs) 8 then (if is_digit (character_at 2 cs) 8 then 3 else 2) else 1

abbrev pub octal_escape : Fault → List Placed → Read (List ℕ)
octal_escape f cs =
    named_or_fault (character_named 8 (characters (take (octal_len cs) cs))) (drop (octal_len cs) cs) f

-- an escape that is not known keeps its backslash
abbrev pub escape_or_both : Option ℕ → List Placed → Read (List ℕ)
escape_or_both (Some c) cs = Ok (c ∷ [], drop 1 cs)
escape_or_both None cs = Ok (backslash ∷ character_at 0 cs ∷ [], drop 1 cs)

-- what an escape stands for, from the character behind its backslash on
unfoldable pub escape : ℕ → List Placed → Read (List ℕ)
escape line cs =
    let c = character_at 0 cs in
    if c == line_feed_character then Ok ([], drop 1 cs)
    else (if is_digit c 8 then octal_escape (line, BadString) cs
    else (if nat_lt 0 (hex_len c) then hex_escape (line, BadString) (hex_len c) (drop 1 cs)
    else (if c == byte "N" then Err (line, BadString)
    else escape_or_both (simple_escape c) cs)))

-- whether the string ends here
abbrev pub closes : Style → List Placed → Bool
closes s cs =
    character_at 0 cs == s.quote
    && (not s.is_triple || (character_at 1 cs == s.quote && character_at 2 cs == s.quote))

abbrev pub quote_len : Style → ℕ
quote_len s = if s.is_triple then 3 else 1

-- What the next character of a string, or its next escape, stands for. A line's end stands only between three quotes or
-- behind a backslash; a raw string keeps its backslashes.
unfoldable pub element : Style → List Placed → Read (List ℕ)
element s cs =
    if character_at 0 cs == line_feed_character && not s.is_triple then Err (s.line, Unended)
    else (if character_at 0 cs == backslash
    then (if s.is_raw then Ok (characters (take 2 cs), drop 2 cs) else escape (line_of cs) (drop 1 cs))
    else Ok (characters (take 1 cs), drop 1 cs))

abbrev pub with_front : List ℕ → Read (List ℕ) → Read (List ℕ)
with_front front r = r >>= λ x. Ok (front ++ x.0, x.1)

-- the characters up to the closing quotes, and what follows those; at most n elements are read
unfoldable pub body : ℕ → Style → List Placed → Read (List ℕ)
body n s [] = Err (s.line, Unended)
body zero s (c ∷ cs) = Err (s.line, Unended)
body (suc n) s (c ∷ cs) =
    if closes s (c ∷ cs) then Ok ([], drop (quote_len s) (c ∷ cs))
    else (element s (c ∷ cs) >>= λ x. with_front x.0 (body n s x.1))

-- what a word directly before a quote makes of the string: in any case of its letters, one of these; any other word is no prefix
abbrev pub prefixes : List (List ℕ × Prefix)
prefixes =
    (codes "", Plain) ∷ (codes "u", Plain) ∷ (codes "r", Raw)
    ∷ (codes "b", Other) ∷ (codes "br", Other) ∷ (codes "rb", Other)
    ∷ (codes "f", Other) ∷ (codes "fr", Other) ∷ (codes "rf", Other) ∷ []

abbrev pub lookup : {A : Type 0} → List ℕ → List (List ℕ × A) → Option A
lookup text [] = None
lookup text (e ∷ es) = if bytes_eq text e.0 then Some e.1 else lookup text es

abbrev pub prefix_of : List ℕ → Option Prefix
prefix_of written = lookup (map to_ascii_lowercase written) prefixes

abbrev pub begins_string : List Placed → Bool
begins_string cs = is_quote (character_at 0 (past_word cs)) && is_some (prefix_of (word_at cs))

-- the style of the string whose quotes stand here
abbrev pub style : Bool → ℕ → List Placed → Style
style is_raw line cs = record {
  quote = character_at 0 cs;
  is_triple = character_at 1 cs == character_at 0 cs && character_at 2 cs == character_at 0 cs;
  is_raw = is_raw;
  line = line;
}

abbrev pub quoted : Style → List Placed → Read TokenKind
quoted s cs = body (length cs) s (drop (quote_len s) cs) >>= λ x. Ok (Str (encode_utf8_all x.0), x.1)

-- plain and raw strings are there, those of other prefixes are not
abbrev pub prefixed : Option Prefix → List Placed → List Placed → Read TokenKind
prefixed (Some Plain) cs quotes = quoted (style false (line_of cs) quotes) quotes
prefixed (Some Raw) cs quotes = quoted (style true (line_of cs) quotes) quotes
prefixed _ cs quotes = Err (line_of cs, BadString)

-- a string, from its prefix on
unfoldable pub string_at : List Placed → Read TokenKind
string_at cs = prefixed (prefix_of (word_at cs)) cs (past_word cs)
