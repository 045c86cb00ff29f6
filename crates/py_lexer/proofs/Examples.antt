-- The definition at small texts, as Python's rules give them.
use Rattle.std.proofs.Common.{◌≡◌, ℕ, ◌-◌, ◌^◌, List, [], ◌∷◌, ◌++◌, codes, refl, replicate, pos, Ok, Err}
use Rattle.py_syntax.specs.declared.token.Token.{Token}
use Rattle.py_syntax.specs.declared.token.TokenKind.{TokenKind}
use Rattle.py_syntax.specs.declared.token.TokenKind.TheVariants.{Newline, Dedent, Indent, End, Int, Sign, Name, Str, Key}
use Rattle.py_syntax.specs.declared.sign.Sign.TheVariants as sign
use Rattle.py_syntax.specs.declared.key.Key.TheVariants as key
use Rattle.py_lexer.specs.declared.fault.LexKind.{LexKind}
use Rattle.py_lexer.specs.declared.fault.LexKind.TheVariants.{BadIndent, Tab, BadCharacter, BadNumber, BadString, Unended, TooDeep}
use Rattle.py_lexer.specs.Numbers.{number}
use Rattle.py_lexer.specs.Signs.{sign_at}
use Rattle.py_lexer.specs.Strings.{escape, element, body, string_at}
use Rattle.py_lexer.specs.Words.{word}
use Rattle.py_lexer.specs.Pieces.{gap, lexeme, pieces}
use Rattle.py_lexer.specs.Tokens.{tokens_of}
use Rattle.unicode_ident.proofs.Computing.{unicode_ident}
use Rattle.unicode_normalization.proofs.Computing.{unicode_normalization}
use lib.Utf8.{encode}

abbrev t : TokenKind → ℕ → ℕ → Token
t kind line col = record { kind = kind; span = record { line = line; col = col } }

abbrev name : List ℕ → ℕ → ℕ → Token
name text = t (Name text)

abbrev int : ℕ → ℕ → ℕ → Token
int n = t (Int (pos n))

abbrev str : List ℕ → ℕ → ℕ → Token
str text = t (Str text)

abbrev Lexes : List ℕ → List Token → Type 0
Lexes text tokens = tokens_of text ≡ Ok tokens

abbrev Faults : List ℕ → ℕ → LexKind → Type 0
Faults text line kind = tokens_of text ≡ Err (line, kind)

-- no character, and a byte order mark alone
empty : (Lexes [] (t End 1 1 ∷ []))
    × (Lexes (0xFEFF ∷ []) (t End 1 1 ∷ []))
unfolding tokens_of pieces gap lexeme number word string_at element body escape sign_at encode unicode_ident unicode_normalization
empty = (refl, refl)

-- each kind of line end, and the end of the text
ends : (Lexes (codes "a\nb\r\nc\rd") (name (codes "a") 1 1 ∷ t Newline 1 2 ∷ name (codes "b") 2 1 ∷ t Newline 2 2 ∷ name (codes "c") 3 1 ∷ t Newline 3 2 ∷ name (codes "d") 4 1 ∷ t Newline 4 2 ∷ t End 5 1 ∷ []))
    × (Lexes (codes "\r\r\n\n") (t End 4 1 ∷ []))
unfolding tokens_of pieces gap lexeme number word string_at element body escape sign_at encode unicode_ident unicode_normalization
ends = (refl, refl)

-- a block, and lines without tokens in it
blocks : (Lexes (codes "if a:\n  b\n# c\n\n  d") (t (Key key.If) 1 1 ∷ name (codes "a") 1 4 ∷ t (Sign sign.Colon) 1 5 ∷ t Newline 1 6 ∷ t Indent 2 3 ∷ name (codes "b") 2 3 ∷ t Newline 2 4 ∷ name (codes "d") 5 3 ∷ t Newline 5 4 ∷ t Dedent 6 1 ∷ t End 6 1 ∷ []))
    × (Lexes (codes "a\n b\n  c\nd") (name (codes "a") 1 1 ∷ t Newline 1 2 ∷ t Indent 2 2 ∷ name (codes "b") 2 2 ∷ t Newline 2 3 ∷ t Indent 3 3 ∷ name (codes "c") 3 3 ∷ t Newline 3 4 ∷ t Dedent 4 1 ∷ t Dedent 4 1 ∷ name (codes "d") 4 1 ∷ t Newline 4 2 ∷ t End 5 1 ∷ []))
unfolding tokens_of pieces gap lexeme number word string_at element body escape sign_at encode unicode_ident unicode_normalization
blocks = (refl, refl)

-- joins: inside a line, behind its leading space, in a comment, and before nothing
joins : (Lexes (codes "1 + \\\n 2 # \\\n") (int 1 1 1 ∷ t (Sign sign.Plus) 1 3 ∷ int 2 2 2 ∷ t Newline 2 3 ∷ t End 3 1 ∷ []))
    × (Lexes (codes "x\n  \\\n y") (name (codes "x") 1 1 ∷ t Newline 1 2 ∷ t Indent 3 2 ∷ name (codes "y") 3 2 ∷ t Newline 3 3 ∷ t Dedent 4 1 ∷ t End 4 1 ∷ []))
    × (Lexes (codes "  \\\n\n1") (int 1 3 1 ∷ t Newline 3 2 ∷ t End 4 1 ∷ []))
unfolding tokens_of pieces gap lexeme number word string_at element body escape sign_at encode unicode_ident unicode_normalization
joins = (refl, refl, refl)

-- joins that are open at the end, the last of which counts; a backslash that joins nothing
open_joins : (Faults (codes "1 \\\n\\\n") 2 Unended)
    × (Faults (codes "x \\") 1 Unended)
    × (Faults (codes "a\n  b\n \\\n") 3 Unended)
    × (Faults (codes "x \\ y") 1 BadCharacter)
unfolding tokens_of pieces gap lexeme number word string_at element body escape sign_at encode unicode_ident unicode_normalization
open_joins = (refl, refl, refl, refl)

-- columns: tabs against spaces, and to no outer level, which is found first; a fault names the first physical line
columns : (Faults (codes "if 1:\n        1\n\t2\n") 3 Tab)
    × (Faults (codes "a\n \tb\n\tc") 3 Tab)
    × (Faults (codes "a\n\tb\n    c") 3 BadIndent)
    × (Faults (codes "a\n    b\n  $") 3 BadIndent)
    × (Faults (codes "a\n  b\n \\\n\n \\\n c") 5 BadIndent)
unfolding tokens_of pieces gap lexeme number word string_at element body escape sign_at encode unicode_ident unicode_normalization
columns = (refl, refl, refl, refl, refl)

-- a byte order mark, and form feeds, which do not count in leading space
feeds : (Lexes (0xFEFF ∷ 12 ∷ codes "x") (name (codes "x") 1 2 ∷ t Newline 1 3 ∷ t End 2 1 ∷ []))
    × (Lexes (codes "a\n " ++ 12 ∷ codes " b\n  c") (name (codes "a") 1 1 ∷ t Newline 1 2 ∷ t Indent 2 4 ∷ name (codes "b") 2 4 ∷ t Newline 2 5 ∷ name (codes "c") 3 3 ∷ t Newline 3 4 ∷ t Dedent 4 1 ∷ t End 4 1 ∷ []))
    × (Faults (0xFEFF ∷ 0xFEFF ∷ []) 1 BadCharacter)
unfolding tokens_of pieces gap lexeme number word string_at element body escape sign_at encode unicode_ident unicode_normalization
feeds = (refl, refl, refl)

-- brackets: line ends inside, of the wrong kind, and closing nothing
brackets : (Lexes (codes "[1,\n\n 2\r]") (t (Sign sign.LeftSquare) 1 1 ∷ int 1 1 2 ∷ t (Sign sign.Comma) 1 3 ∷ int 2 3 2 ∷ t (Sign sign.RightSquare) 4 1 ∷ t Newline 4 2 ∷ t End 5 1 ∷ []))
    × (Lexes (codes "(]\n)") (t (Sign sign.LeftParen) 1 1 ∷ t (Sign sign.RightSquare) 1 2 ∷ t Newline 1 3 ∷ t (Sign sign.RightParen) 2 1 ∷ t Newline 2 2 ∷ t End 3 1 ∷ []))
unfolding tokens_of pieces gap lexeme number word string_at element body escape sign_at encode unicode_ident unicode_normalization
brackets = (refl, refl)

-- brackets that are open at the end, the innermost of which counts, before a join; an earlier fault, and a string, inside them
open_brackets : (Faults (codes "(1\n") 1 Unended)
    × (Faults (codes "(\n[{\n}") 2 Unended)
    × (Faults (codes "(\n\\\n") 1 Unended)
    × (Faults (codes "(\n$") 2 BadCharacter)
    × (Faults (codes "(\n'a") 2 Unended)
unfolding tokens_of pieces gap lexeme number word string_at element body escape sign_at encode unicode_ident unicode_normalization
open_brackets = (refl, refl, refl, refl, refl)

-- a hundred brackets, and one more
levels : (Faults (replicate 100 40) 1 Unended)
    × (Faults (replicate 100 40 ++ codes "\n(") 2 TooDeep)
unfolding tokens_of pieces gap lexeme number word string_at element body escape sign_at encode unicode_ident unicode_normalization
levels = (refl, refl)

-- numbers
numbers : (Lexes (codes "0x_fF>>=0b1 0O17") (int 255 1 1 ∷ t (Sign sign.ShrAssign) 1 6 ∷ int 1 1 9 ∷ int 15 1 13 ∷ t Newline 1 17 ∷ t End 2 1 ∷ []))
    × (Lexes (codes "1_000 00 0_0") (int 1000 1 1 ∷ int 0 1 7 ∷ int 0 1 10 ∷ t Newline 1 13 ∷ t End 2 1 ∷ []))
    × (Lexes (codes "170141183460469231731687303715884105727") (int (2 ^ 127 - 1) 1 1 ∷ t Newline 1 40 ∷ t End 2 1 ∷ []))
unfolding tokens_of pieces gap lexeme number word string_at element body escape sign_at encode unicode_ident unicode_normalization
numbers = (refl, refl, refl)

-- leading zeros, underscores, bases without digits or with wrong ones, what follows at once, fractions, and a number too large
bad_numbers : (Faults (codes "print(03)") 1 BadNumber)
    × (Faults (codes "0_7") 1 BadNumber)
    × (Faults (codes "1_") 1 BadNumber)
    × (Faults (codes "1__0") 1 BadNumber)
    × (Faults (codes "0x") 1 BadNumber)
    × (Faults (codes "0b12") 1 BadNumber)
    × (Faults (codes "0_x1") 1 BadNumber)
    × (Faults (codes "1if") 1 BadNumber)
    × (Faults (codes "1.") 1 BadNumber)
    × (Faults (codes "x.5") 1 BadNumber)
    × (Faults (codes "1e5") 1 BadNumber)
    × (Faults (codes "170141183460469231731687303715884105728") 1 BadNumber)
unfolding tokens_of pieces gap lexeme number word string_at element body escape sign_at encode unicode_ident unicode_normalization
bad_numbers = (refl, refl, refl, refl, refl, refl, refl, refl, refl, refl, refl, refl)

-- each escape
escapes : (Lexes (codes "'\\a\\b\\t\\n\\v\\f\\r\\\\\\'\\\"'") (str (7 ∷ 8 ∷ 9 ∷ 10 ∷ 11 ∷ 12 ∷ 13 ∷ 92 ∷ 39 ∷ 34 ∷ []) 1 1 ∷ t Newline 1 23 ∷ t End 2 1 ∷ []))
    × (Lexes (codes "'\\7\\101\\1018\\x41\\u0041\\U00000041\\q\\8'") (str (7 ∷ 65 ∷ 65 ∷ 56 ∷ 65 ∷ 65 ∷ 65 ∷ 92 ∷ 113 ∷ 92 ∷ 56 ∷ []) 1 1 ∷ t Newline 1 38 ∷ t End 2 1 ∷ []))
    × (Lexes (codes "'a\\\nb\\777'") (str (97 ∷ 98 ∷ 199 ∷ 191 ∷ []) 1 1 ∷ t Newline 2 7 ∷ t End 3 1 ∷ []))
unfolding tokens_of pieces gap lexeme number word string_at element body escape sign_at encode unicode_ident unicode_normalization
escapes = (refl, refl, refl)

-- prefixes, three quotes, raw strings, and a word that is no prefix
strings : (Lexes (codes "U'a' R'\\n' ''") (str (codes "a") 1 1 ∷ str (92 ∷ 110 ∷ []) 1 6 ∷ str [] 1 12 ∷ t Newline 1 14 ∷ t End 2 1 ∷ []))
    × (Lexes (codes "\"\"\"a\r\n\"b\"\\\n\"\"\"") (str (97 ∷ 10 ∷ 34 ∷ 98 ∷ 34 ∷ []) 1 1 ∷ t Newline 3 4 ∷ t End 4 1 ∷ []))
    × (Lexes (codes "r'\\'\\\r'") (str (92 ∷ 39 ∷ 92 ∷ 10 ∷ []) 1 1 ∷ t Newline 2 2 ∷ t End 3 1 ∷ []))
    × (Lexes (codes "ur'a'") (name (codes "ur") 1 1 ∷ str (codes "a") 1 3 ∷ t Newline 1 6 ∷ t End 2 1 ∷ []))
unfolding tokens_of pieces gap lexeme number word string_at element body escape sign_at encode unicode_ident unicode_normalization
strings = (refl, refl, refl, refl)

-- other prefixes, wrong escapes, at their own line, and before an end that is missing
bad_strings : (Faults (codes "b'a'") 1 BadString)
    × (Faults (codes "Rf'a'") 1 BadString)
    × (Faults (codes "'\\ud800'") 1 BadString)
    × (Faults (codes "'\\U00110000'") 1 BadString)
    × (Faults (codes "'\\x4'") 1 BadString)
    × (Faults (codes "'\\u12") 1 BadString)
    × (Faults (codes "\n'''a\n\\N'''") 3 BadString)
unfolding tokens_of pieces gap lexeme number word string_at element body escape sign_at encode unicode_ident unicode_normalization
bad_strings = (refl, refl, refl, refl, refl, refl, refl)

-- strings that their line or the text ends, at the line where they begin
open_strings : (Faults (codes "\n'a\n'") 2 Unended)
    × (Faults (codes "'a\\\nb\nc'") 1 Unended)
    × (Faults (codes "\"\"\"a\n\nb") 1 Unended)
    × (Faults (codes "r'\\'") 1 Unended)
unfolding tokens_of pieces gap lexeme number word string_at element body escape sign_at encode unicode_ident unicode_normalization
open_strings = (refl, refl, refl, refl)

-- names by their normal form; a keyword only as it is written
names : (Lexes (codes "ﬁ fi µ") (name (codes "fi") 1 1 ∷ name (codes "fi") 1 3 ∷ name (206 ∷ 188 ∷ []) 1 6 ∷ t Newline 1 7 ∷ t End 2 1 ∷ []))
    × (Lexes (codes "ｉｆ match") (name (codes "if") 1 1 ∷ name (codes "match") 1 4 ∷ t Newline 1 9 ∷ t End 2 1 ∷ []))
unfolding tokens_of pieces gap lexeme number word string_at element body escape sign_at encode unicode_ident unicode_normalization
names = (refl, refl)

-- characters that begin no token, among them a mark that no name begins with
bad_characters : (Faults (codes "$") 1 BadCharacter)
    × (Faults (codes "a!b") 1 BadCharacter)
    × (Faults (codes "?") 1 BadCharacter)
    × (Faults (0 ∷ []) 1 BadCharacter)
    × (Faults (11 ∷ []) 1 BadCharacter)
    × (Faults (837 ∷ []) 1 BadCharacter)
    × (Faults (codes "a" ++ 160 ∷ codes "b") 1 BadCharacter)
unfolding tokens_of pieces gap lexeme number word string_at element body escape sign_at encode unicode_ident unicode_normalization
bad_characters = (refl, refl, refl, refl, refl, refl, refl)
