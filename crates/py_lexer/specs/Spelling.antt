-- How each token is written (Python Language Reference, "Lexical analysis"), token by token, in words of its own: tables of signs, of
-- keywords, of bases and of escapes, and the grammar of a number and of a string. It says nothing of how a text is read. It is what the
-- definition of a text's tokens is measured by.
use Rattle.std.specs.Prelude.{◌≡◌, ◌≢◌, ◌⊎◌, ◌<◌, ◌≤◌, ◌^◌, ℕ, ℤ, pos, Bool, true, false, List, [], ◌∷◌, ◌++◌, length, replicate, codes, encode_utf8_all}
use Rattle.std.specs.Char.{is_ascii_digit}
use Rattle.std.specs.List.{AllByRecursion, Contains}
use Rattle.std.specs.Io.{StartsWith}
use Rattle.std.specs.Str.{byte}
use Rattle.unicode_ident.specs.Ident.{is_xid_start, is_xid_continue}
use Rattle.unicode_normalization.specs.Forms.{nfkc}
use Rattle.py_syntax.specs.declared.key.Key.{Key}
use Rattle.py_syntax.specs.declared.sign.Sign.{Sign}
use Rattle.py_syntax.specs.declared.token.TokenKind.{TokenKind}
use Rattle.py_syntax.specs.declared.token.TokenKind.TheVariants as token
use Rattle.py_syntax.specs.Texts.{key_text, sign_text}
use Rattle.py_lexer.specs.declared.gap.Gap.{Gap}
use Rattle.py_lexer.specs.declared.gap.Gap.TheVariants as gap
use Rattle.py_lexer.specs.Digits.{IsDigit, IsRow, place_value, NextIsNot}
use Rattle.py_lexer.specs.Escapes.{AreElements, Element, written, stands_for}

-- In each rule `text` is what the token is written with, and `rest` is what stands behind it, to the end of the text.

-- no character of an identifier follows
abbrev pub EndsWord : List ℕ → Type 0
EndsWord = NextIsNot (λ c. is_xid_continue c ≡ true)

-- A sign's text spells it, and no sign that fits there is longer. A dot before a digit is none.
pub record IsSign (sign : Sign) (text rest : List ℕ) : Type 0 where
  pub value : text ≡ sign_text sign
  pub longest : (other : Sign) → StartsWith (text ++ rest) (sign_text other) → length (sign_text other) ≤ length text
  pub no_fraction : text ≡ codes "." → NextIsNot (λ c. is_ascii_digit c ≡ true) rest

-- a keyword's text spells it, as it is written, and the word ends there
abbrev pub IsKey : Key → List ℕ → List ℕ → Type 0
IsKey k text rest = (text ≡ key_text k) × EndsWord rest

-- an identifier begins with `_` or XID_Start, and goes on with XID_Continue
abbrev pub IsIdentifier : List ℕ → Type 0
IsIdentifier [] = ⊥
IsIdentifier (c ∷ cs) = ((c ≡ byte "_") ⊎ (is_xid_start c ≡ true)) × AllByRecursion (λ d. is_xid_continue d ≡ true) cs

-- what may stand before the quotes of a string, in either case of its letters
abbrev pub all_prefixes : List (List ℕ)
all_prefixes =
    codes "u" ∷ codes "U" ∷ codes "r" ∷ codes "R" ∷ codes "b" ∷ codes "B" ∷ codes "f" ∷ codes "F"
    ∷ codes "br" ∷ codes "bR" ∷ codes "Br" ∷ codes "BR" ∷ codes "rb" ∷ codes "rB" ∷ codes "Rb" ∷ codes "RB"
    ∷ codes "fr" ∷ codes "fR" ∷ codes "Fr" ∷ codes "FR" ∷ codes "rf" ∷ codes "rF" ∷ codes "Rf" ∷ codes "RF" ∷ []

abbrev pub IsQuote : ℕ → Type 0
IsQuote c = (c ≡ byte "'") ⊎ (c ≡ byte "\"")

-- A name is the normal form NFKC of its text, in UTF-8. Its text and its normal form are identifiers, its text is no keyword and no prefix
-- of quotes that follow, and the word ends there.
pub record IsName (name text rest : List ℕ) : Type 0 where
  pub value : name ≡ encode_utf8_all (nfkc text)
  pub is_identifier : IsIdentifier text
  pub is_normal : IsIdentifier (nfkc text)
  pub no_key : (k : Key) → text ≢ key_text k
  pub no_prefix : Contains all_prefixes text → NextIsNot IsQuote rest
  pub ends : EndsWord rest

-- the letters that name a base behind a 0
abbrev pub base_letters : List (ℕ × ℕ)
base_letters = (byte "x", 16) ∷ (byte "X", 16) ∷ (byte "o", 8) ∷ (byte "O", 8) ∷ (byte "b", 2) ∷ (byte "B", 2) ∷ []

-- 0, a letter, and a row of digits of its base, which have the value n
pub record IsBased (n : ℕ) (text : List ℕ) : Type 0 where
  pub letter : ℕ
  pub base : ℕ
  pub row : List ℕ
  pub first : ℕ
  pub digits : List ℕ
  pub split : text ≡ byte "0" ∷ letter ∷ row
  pub named : Contains base_letters (letter, base)
  pub is_row : IsRow base (first ∷ digits) row
  pub value : n ≡ place_value base (first ∷ digits)

-- a row of decimal digits that begins with a digit, and with 0 only where its value is 0
pub record IsDecimal (n : ℕ) (text : List ℕ) : Type 0 where
  pub character : ℕ
  pub row : List ℕ
  pub first : ℕ
  pub digits : List ℕ
  pub split : text ≡ character ∷ row
  pub is_digit : IsDigit 10 character first
  pub is_row : IsRow 10 digits row
  pub value : n ≡ place_value 10 (first ∷ digits)
  pub no_leading_zero : first ≡ 0 → n ≡ 0

-- a number has the value of its digits, which is below 2^127; neither a character of an identifier nor a dot follows
pub record IsNumber (number : ℤ) (text rest : List ℕ) : Type 0 where
  pub n : ℕ
  pub value : number ≡ pos n
  pub fits : n < 2 ^ 127
  pub is_written : IsBased n text ⊎ IsDecimal n text
  pub ends : EndsWord rest
  pub no_dot : NextIsNot (λ c. c ≡ byte ".") rest

-- the prefixes of a string, and whether it is raw
abbrev pub string_prefixes : List (List ℕ × Bool)
string_prefixes =
    (codes "", false) ∷ (codes "u", false) ∷ (codes "U", false) ∷ (codes "r", true) ∷ (codes "R", true) ∷ []

-- A prefix, quotes, elements, and the same quotes again. The string is what its elements stand for, joined, in UTF-8. No element begins
-- with the quotes; and one quote that opens a string is not the first of three.
pub record IsString (string text rest : List ℕ) : Type 0 where
  pub prefix : List ℕ
  pub is_raw : Bool
  pub quote : ℕ
  pub count : ℕ
  pub elements : List Element
  pub is_prefix : Contains string_prefixes (prefix, is_raw)
  pub is_quote : IsQuote quote
  pub split : text ≡ prefix ++ (replicate count quote ++ (written elements ++ replicate count quote))
  pub one_or_three : ((count ≡ 1) × ¬ StartsWith (replicate 1 quote ++ (written elements ++ (replicate 1 quote ++ rest))) (replicate 3 quote)) ⊎ (count ≡ 3)
  pub are_elements : AreElements is_raw (replicate count quote) elements rest
  pub value : string ≡ encode_utf8_all (stands_for elements)

-- how a token is written; the ends of lines and of the text and the levels of indentation are written with nothing
abbrev pub Spells : TokenKind → List ℕ → List ℕ → Type 0
Spells (token.Name name) text rest = IsName name text rest
Spells (token.Int n) text rest = IsNumber n text rest
Spells (token.Str string) text rest = IsString string text rest
Spells (token.Key k) text rest = IsKey k text rest
Spells (token.Sign s) text rest = IsSign s text rest
Spells _ text rest = text ≡ []

-- how a gap is written: a comment ends before the end of its line
abbrev pub SpellsGap : Gap → List ℕ → List ℕ → Type 0
SpellsGap gap.Space text rest = text ≡ codes " "
SpellsGap gap.Tab text rest = text ≡ codes "\t"
SpellsGap gap.FormFeed text rest = text ≡ 12 ∷ []
SpellsGap gap.LineEnd text rest = text ≡ codes "\n"
SpellsGap gap.Join text rest = text ≡ codes "\\\n"
SpellsGap gap.Comment text rest =
    (more : List ℕ) × (text ≡ byte "#" ∷ more) × AllByRecursion (λ c. c ≢ byte "\n") more × NextIsNot (λ c. c ≢ byte "\n") rest
