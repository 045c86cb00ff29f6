-- What is left behind a gap or a token is less of the same text.
use Rattle.std.proofs.Common.{◌≡◌, ℕ, zero, suc, ◌+◌, ◌<◌, Bool, true, false, List, [], ◌∷◌, length, take, drop, Option, Some, None, Ok, Err, refl, ap, ◌∙◌, arith, length-drop, encode_utf8_all}
use Rattle.std.specs.Prelude.{if◌then◌else◌, ◌==◌, ◌&&◌, not, nat_lt, IfSome, IfOk}
use Rattle.std.specs.Char.{is_digit}
use Rattle.std.specs.Str.{byte}
use Rattle.std.proofs.lemmas.List.{drop-drop, length-map, length-take}
use Rattle.unicode_normalization.specs.Forms.{nfkc}
use Rattle.py_syntax.specs.declared.key.Key.{Key}
use Rattle.py_syntax.specs.declared.sign.Sign.{Sign}
use Rattle.py_syntax.specs.declared.token.TokenKind.{TokenKind}
use Rattle.py_syntax.specs.declared.token.TokenKind.TheVariants as token
use Rattle.py_lexer.specs.declared.fault.LexKind.TheVariants.{BadNumber, BadString, Unended}
use Rattle.py_lexer.specs.declared.gap.Gap.{Gap}
use Rattle.py_lexer.specs.declared.gap.Gap.TheVariants.{Space, Tab, FormFeed, Comment, Join, LineEnd}
use Rattle.py_lexer.specs.declared.placed.Placed.{Placed}
use Rattle.py_lexer.specs.declared.string.Prefix.{Prefix}
use Rattle.py_lexer.specs.declared.string.Prefix.TheVariants.{Plain, Raw, Other}
use Rattle.py_lexer.specs.declared.string.Style.{Style}
use Rattle.py_lexer.specs.Places.{character_at, characters, line_of, line_feed_character}
use Rattle.py_lexer.specs.Reading.{Fault, Read, ◌>>=◌}
use Rattle.py_lexer_words.specs.Words.{begins_name, is_python_identifier}
use Rattle.py_lexer.specs.Words.{word_len, word_at, past_word, word, keyword_or_name}
use Rattle.py_lexer.specs.Numbers.{begins_number, number, numeral, number_or_fault}
use Rattle.py_lexer.specs.Signs.{sign_at, sign_in, or_else}
use Rattle.py_lexer.specs.Strings.{backslash, is_quote, escape, element, body, with_front, closes, quote_len, string_at, prefixed, quoted, begins_string, hex_escape, octal_escape, octal_len, hex_len, named_or_fault, character_named, escape_or_both, simple_escape, prefix_of, style}
use Rattle.py_lexer.specs.Pieces.{gap, lexeme, past_comment}
use Rattle.py_lexer.proofs.WordLemmas.{word_shorter}

-- one list is what is left of another
abbrev pub IsRest : List Placed → List Placed → Type 0
IsRest cs rest = (n : ℕ) × (rest ≡ drop n cs)

-- and it is shorter
abbrev pub IsLess : List Placed → List Placed → Type 0
IsLess cs rest = (n : ℕ) × (rest ≡ drop n cs) × (length rest < length cs)

-- a token that a text writes: neither the end of a line or a text, nor a level
abbrev pub IsWritten : TokenKind → Type 0
IsWritten token.Newline = ⊥
IsWritten token.Indent = ⊥
IsWritten token.Dedent = ⊥
IsWritten token.End = ⊥
IsWritten _ = Unit {0}

-- what a gap, a part of a string and a token leave
abbrev pub GapLess : List Placed → Option (Gap × List Placed) → Type 0
GapLess cs o = IfSome o (λ x. IsLess cs x.1)

abbrev pub PartLeaves : List Placed → Read (List ℕ) → Type 0
PartLeaves cs r = IfOk r (λ x. IsRest cs x.1)

abbrev pub TokenLess : List Placed → Read TokenKind → Type 0
TokenLess cs r = IfOk r (λ x. IsWritten x.0 × IsLess cs x.1)

some_less : (cs : List Placed) (n : ℕ) → 0 < n → 0 < length cs → IsLess cs (drop n cs)
some_less cs n some h = (n, refl, omega (arith, length-drop n cs))

rest_of_rest : (cs rest more : List Placed) → IsRest cs rest → IsRest rest more → IsRest cs more
rest_of_rest cs rest more h k = (h.0 + k.0, k.1 ∙ ap (drop k.0) h.1 ∙ drop-drop k.0 h.0 cs)

rest_of_less : (cs rest more : List Placed) → IsLess cs rest → IsRest rest more → IsLess cs more
rest_of_less cs rest more h k = (
  h.0 + k.0,
  k.1 ∙ ap (drop k.0) h.1 ∙ drop-drop k.0 h.0 cs,
  let n = ap length k.1 in omega (arith, h.2, length-drop k.0 rest),
)

less_of_rest : (cs rest more : List Placed) → IsRest cs rest → IsLess rest more → IsLess cs more
less_of_rest cs rest more h k = (
  h.0 + k.0,
  k.1 ∙ ap (drop k.0) h.1 ∙ drop-drop k.0 h.0 cs,
  let n = ap length h.1 in omega (arith, k.2, length-drop h.0 cs),
)

-- A definition's tests are variables in the lemmas on its cases.

gap_cases : (space tab form_feed line_end comment join : Bool) (cs : List Placed) → 0 < length cs →
    GapLess cs (if space then Some (Space, drop 1 cs) else (if tab then Some (Tab, drop 1 cs) else (if form_feed then Some (FormFeed, drop 1 cs) else (if line_end then Some (LineEnd, drop 1 cs) else (if comment then Some (Comment, past_comment (drop 1 cs)) else (if join then Some (Join, drop 2 cs) else None))))))
gap_cases true tab form_feed line_end comment join cs h = some_less cs 1 (omega arith) h
gap_cases false true form_feed line_end comment join cs h = some_less cs 1 (omega arith) h
gap_cases false false true line_end comment join cs h = some_less cs 1 (omega arith) h
gap_cases false false false true comment join cs h = some_less cs 1 (omega arith) h
gap_cases false false false false true join cs h =
    rest_of_less cs (drop 1 cs) (past_comment (drop 1 cs)) (some_less cs 1 (omega arith) h) (_, refl)
gap_cases false false false false false true cs h = some_less cs 2 (omega arith) h
gap_cases false false false false false false cs h = tt

-- a gap leaves less of the text
pub gap_less : (cs : List Placed) → 0 < length cs → GapLess cs (gap cs)
unfolding gap
gap_less cs h =
    let c = character_at 0 cs in
    gap_cases (c == byte " ") (c == 9) (c == 12) (c == line_feed_character) (c == byte "#") (c == backslash && character_at 1 cs == line_feed_character) cs h

named_leaves : (cs rest : List Placed) (o : Option ℕ) (f : Fault) → IsRest cs rest → PartLeaves cs (named_or_fault o rest f)
named_leaves cs rest None f h = tt
named_leaves cs rest (Some c) f h = h

letter_leaves : (cs : List Placed) (o : Option ℕ) → PartLeaves cs (escape_or_both o cs)
letter_leaves cs None = (1, refl)
letter_leaves cs (Some c) = (1, refl)

hex_leaves : (short : Bool) (cs : List Placed) (n : ℕ) (f : Fault) → PartLeaves cs (if short then Err f else named_or_fault (character_named 16 (characters (take n (drop 1 cs)))) (drop n (drop 1 cs)) f)
hex_leaves true cs n f = tt
hex_leaves false cs n f = named_leaves cs (drop n (drop 1 cs)) _ f (_, drop-drop n 1 cs)

escape_cases : (line_end octal hex unknown : Bool) (line : ℕ) (cs : List Placed) →
    PartLeaves cs (if line_end then Ok ([], drop 1 cs) else (if octal then octal_escape (line, BadString) cs else (if hex then hex_escape (line, BadString) (hex_len (character_at 0 cs)) (drop 1 cs) else (if unknown then Err (line, BadString) else escape_or_both (simple_escape (character_at 0 cs)) cs))))
escape_cases true octal hex unknown line cs = (1, refl)
escape_cases false true hex unknown line cs = named_leaves cs (drop (octal_len cs) cs) _ _ (_, refl)
escape_cases false false true unknown line cs = hex_leaves _ cs (hex_len (character_at 0 cs)) (line, BadString)
escape_cases false false false true line cs = tt
escape_cases false false false false line cs = letter_leaves cs (simple_escape (character_at 0 cs))

pub escape_leaves : (line : ℕ) (cs : List Placed) → PartLeaves cs (escape line cs)
unfolding escape
escape_leaves line cs =
    let c = character_at 0 cs in
    escape_cases (c == line_feed_character) (is_digit c 8) (nat_lt 0 (hex_len c)) (c == byte "N") line cs

leaves_more : (cs rest : List Placed) (r : Read (List ℕ)) → IsRest cs rest → PartLeaves rest r → PartLeaves cs r
leaves_more cs rest (Ok x) h k = rest_of_rest cs rest x.1 h k
leaves_more cs rest (Err e) h k = tt

element_cases : (line_end plain raw : Bool) (s : Style) (cs : List Placed) →
    PartLeaves cs (if line_end then Err (s.line, Unended) else (if plain then (if raw then Ok (characters (take 2 cs), drop 2 cs) else escape (line_of cs) (drop 1 cs)) else Ok (characters (take 1 cs), drop 1 cs)))
element_cases true plain raw s cs = tt
element_cases false true true s cs = (2, refl)
element_cases false true false s cs =
    leaves_more cs (drop 1 cs) (escape (line_of cs) (drop 1 cs)) (1, refl) (escape_leaves (line_of cs) (drop 1 cs))
element_cases false false raw s cs = (1, refl)

element_leaves : (s : Style) (cs : List Placed) → PartLeaves cs (element s cs)
unfolding element
element_leaves s cs =
    element_cases (character_at 0 cs == line_feed_character && not s.is_triple) (character_at 0 cs == backslash) s.is_raw s cs

front_leaves : (cs : List Placed) (front : List ℕ) (r : Read (List ℕ)) → PartLeaves cs r → PartLeaves cs (with_front front r)
front_leaves cs front (Ok x) h = h
front_leaves cs front (Err e) h = tt

body_cases : (closed : Bool) (n : ℕ) (s : Style) (cs : List Placed) (r : Read (List ℕ)) → PartLeaves cs r → ((rest : List Placed) → PartLeaves rest (body n s rest)) → PartLeaves cs (if closed then Ok ([], drop (quote_len s) cs) else (r >>= λ x. with_front x.0 (body n s x.1)))
body_cases true n s cs r h more = (quote_len s, refl)
body_cases false n s cs (Ok x) h more =
    front_leaves cs x.0 (body n s x.1) (leaves_more cs x.1 (body n s x.1) h (more x.1))
body_cases false n s cs (Err e) h more = tt

body_leaves : (n : ℕ) (s : Style) (cs : List Placed) → PartLeaves cs (body n s cs)
unfolding body
body_leaves n s [] = tt
body_leaves zero s (c ∷ cs) = tt
body_leaves (suc n) s (c ∷ cs) =
    body_cases (closes s (c ∷ cs)) n s (c ∷ cs) (element s (c ∷ cs)) (element_leaves s (c ∷ cs)) (λ rest. body_leaves n s rest)

number_cases : (o : Option ℕ) (cs : List Placed) (f : Fault) → 0 < word_len cs → 0 < length cs → TokenLess cs (number_or_fault o (past_word cs) f)
number_cases None cs f some h = tt
number_cases (Some n) cs f some h = (tt, some_less cs (word_len cs) some h)

numeral_less : (written : List ℕ) (cs : List Placed) (f : Fault) → written ≡ word_at cs → 0 < length cs → TokenLess cs (number_or_fault (numeral written) (past_word cs) f)
numeral_less [] cs f is h = tt
numeral_less (c ∷ written) cs f is h =
    let n = ap length is in
    let m = length-map (take (word_len cs) cs) (λ x. x.character) in
    number_cases (numeral (c ∷ written)) cs f (omega (arith, length-take (word_len cs) cs)) h

dotted : (dot : Bool) (cs : List Placed) (f : Fault) → 0 < length cs → TokenLess cs (if dot then Err f else number_or_fault (numeral (word_at cs)) (past_word cs) f)
dotted true cs f h = tt
dotted false cs f h = numeral_less (word_at cs) cs f refl h

number_less : (cs : List Placed) → 0 < length cs → TokenLess cs (number cs)
unfolding number
number_less cs h = dotted (character_at 0 (past_word cs) == byte ".") cs (line_of cs, BadNumber) h

name_less : (is : Bool) (normal : List ℕ) (cs : List Placed) (f : Fault) → IsLess cs (past_word cs) → TokenLess cs ((if is then Ok (token.Name (encode_utf8_all normal)) else Err f) >>= λ k. Ok (k, past_word cs))
name_less true normal cs f less = (tt, less)
name_less false normal cs f less = tt

keyword_less : (o : Option Key) (cs : List Placed) (f : Fault) → IsLess cs (past_word cs) → TokenLess cs (keyword_or_name o (word_at cs) f >>= λ k. Ok (k, past_word cs))
keyword_less (Some k) cs f less = (tt, less)
keyword_less None cs f less = name_less (is_python_identifier (nfkc (word_at cs))) (nfkc (word_at cs)) cs f less

word_less : (cs : List Placed) → begins_name (character_at 0 cs) ≡ true → TokenLess cs (word cs)
unfolding word
word_less cs begins = keyword_less _ cs _ (_, refl, word_shorter cs begins)

sign_cases : (o : Option Sign) (n : ℕ) (cs : List Placed) (other : Read TokenKind) → 0 < n → 0 < length cs → TokenLess cs other → TokenLess cs (or_else o n cs other)
sign_cases (Some s) n cs other some h less = (tt, some_less cs n some h)
sign_cases None n cs other some h less = less

sign_less : (cs : List Placed) → 0 < length cs → TokenLess cs (sign_at cs)
unfolding sign_at
sign_less cs h =
    sign_cases (sign_in 3 cs) 3 cs _ (omega arith) h
    (sign_cases (sign_in 2 cs) 2 cs _ (omega arith) h (sign_cases (sign_in 1 cs) 1 cs _ (omega arith) h tt))

closed_less : (quotes : List Placed) (n : ℕ) (r : Read (List ℕ)) → 0 < n → 0 < length quotes → PartLeaves (drop n quotes) r → TokenLess quotes (r >>= λ x. Ok (token.Str (encode_utf8_all x.0), x.1))
closed_less quotes n (Ok x) some h leaves = (tt, rest_of_less quotes (drop n quotes) x.1 (some_less quotes n some h) leaves)
closed_less quotes n (Err e) some h leaves = tt

some_quotes : (s : Style) → 0 < quote_len s
some_quotes s = elim s.is_triple as (λ b. 0 < (if b then 3 else 1)) [ true ↦ omega arith | false ↦ omega arith ]

quoted_less : (s : Style) (quotes : List Placed) → 0 < length quotes → TokenLess quotes (quoted s quotes)
quoted_less s quotes h =
    closed_less quotes (quote_len s) _ (some_quotes s) h (body_leaves (length quotes) s (drop (quote_len s) quotes))

behind_prefix : (cs quotes : List Placed) (r : Read TokenKind) → IsRest cs quotes → TokenLess quotes r → TokenLess cs r
behind_prefix cs quotes (Ok x) h less = (less.0, less_of_rest cs quotes x.1 h less.1)
behind_prefix cs quotes (Err e) h less = tt

prefix_cases : (o : Option Prefix) (cs : List Placed) → 0 < length (past_word cs) → TokenLess cs (prefixed o cs (past_word cs))
prefix_cases (Some Plain) cs h =
    behind_prefix cs (past_word cs) (quoted (style false (line_of cs) (past_word cs)) (past_word cs)) (_, refl) (quoted_less _ (past_word cs) h)
prefix_cases (Some Raw) cs h =
    behind_prefix cs (past_word cs) (quoted (style true (line_of cs) (past_word cs)) (past_word cs)) (_, refl) (quoted_less _ (past_word cs) h)
prefix_cases (Some Other) cs h = tt
prefix_cases None cs h = tt

both_true : (a b : Bool) → (a && b) ≡ true → a ≡ true
both_true true b is = refl
both_true false b is = is

-- a quote stands there
quote_there : (cs : List Placed) → is_quote (character_at 0 cs) ≡ true → 0 < length cs
quote_there [] is = cc
quote_there (c ∷ cs) is = omega arith

string_less : (cs : List Placed) → begins_string cs ≡ true → TokenLess cs (string_at cs)
unfolding string_at
string_less cs begins =
    prefix_cases (prefix_of (word_at cs)) cs (quote_there (past_word cs) (both_true _ _ begins))

lexeme_cases : (is_number is_string is_word : Bool) (cs : List Placed) → 0 < length cs → (is_string ≡ true → TokenLess cs (string_at cs)) → (is_word ≡ true → TokenLess cs (word cs)) → TokenLess cs (if is_number then number cs else (if is_string then string_at cs else (if is_word then word cs else sign_at cs)))
lexeme_cases true is_string is_word cs h string name = number_less cs h
lexeme_cases false true is_word cs h string name = string refl
lexeme_cases false false true cs h string name = name refl
lexeme_cases false false false cs h string name = sign_less cs h

-- a token leaves less of the text
pub lexeme_less : (cs : List Placed) → 0 < length cs → TokenLess cs (lexeme cs)
unfolding lexeme
lexeme_less cs h =
    lexeme_cases (begins_number cs) (begins_string cs) (begins_name (character_at 0 cs)) cs h (string_less cs) (word_less cs)
