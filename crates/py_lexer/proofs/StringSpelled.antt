-- Strings: the elements between the quotes, and the whole.
use Rattle.std.proofs.Common.{◌≡◌, ℕ, zero, suc, ◌+◌, ◌<◌, Bool, true, false, cond, not, List, [], ◌∷◌, ◌++◌, map, length, take, drop, replicate, codes, Option, Some, None, Ok, Err, refl, ap, sym, subst, ◌∙◌, arith, ◌⊎◌, inl, inr, eqb-true, eq-eqb, slice_get, append_assoc, encode_utf8_all, length-append, length-drop}
use Rattle.std.specs.Prelude.{IfOk, if◌then◌else◌, ◌==◌, ◌||◌, ◌&&◌}
use Rattle.std.specs.Char.{to_ascii_lowercase}
use Rattle.std.specs.Io.{StartsWith}
use Rattle.std.specs.Str.{byte, bytes_eq}
use Rattle.std.specs.List.{take-map, AllByRecursion, Contains}
use Rattle.std.proofs.lemmas.List.{length-map}
use Rattle.std.proofs.lemmas.Slice.Eq.{bytes_eq-Decides}
use Rattle.py_syntax.specs.declared.token.TokenKind.{TokenKind}
use Rattle.py_syntax.specs.declared.token.TokenKind.TheVariants as token
use Rattle.py_lexer.specs.declared.fault.LexKind.TheVariants.{Unended}
use Rattle.py_lexer.specs.declared.placed.Placed.{Placed}
use Rattle.py_lexer.specs.declared.string.Prefix.{Prefix}
use Rattle.py_lexer.specs.declared.string.Prefix.TheVariants.{Plain, Raw, Other}
use Rattle.py_lexer.specs.declared.string.Style.{Style}
use Rattle.py_lexer.specs.Places.{characters, character_at, line_of, line_feed_character}
use Rattle.py_lexer.specs.Reading.{Read, ◌>>=◌}
use Rattle.py_lexer.specs.Words.{word_at, word_len, past_word}
use Rattle.py_lexer.specs.Strings.{backslash, is_quote, escape, element, closes, quote_len, body, with_front, lookup, prefix_of, begins_string, style, prefixed, string_at}
use Rattle.py_lexer.specs.Escapes.{Element, written, stands_for, IsElement, AreElements}
use Rattle.py_lexer.specs.Escapes as escapes
use Rattle.py_lexer.specs.Spelling.{string_prefixes}
use Rattle.py_lexer.proofs.Spelled.{Spelled, front_split, one_true, first_true, second_true, row_of}
use Rattle.py_lexer.proofs.RestLemmas.{escape_leaves, PartLeaves}
use Rattle.py_lexer.proofs.EscapeSpelled.{EscapeOf, escape_spelled}

abbrev quotes : Style → List ℕ
quotes s = replicate (quote_len s) s.quote

-- an element that was read, where the string goes on behind it
record ElementOf (s : Style) (cs : List Placed) (value : List ℕ) (rest : List Placed) : Type 0 where
  pub text : List ℕ
  pub split : characters cs ≡ text ++ characters rest
  pub is : IsElement s.is_raw (quotes s) text (characters rest) value

abbrev IfOn : Style → List Placed → List ℕ × List Placed → Type 0
IfOn s cs x = 0 < length x.1 → ElementOf s cs x.0 x.1

escaped : (s : Style) (a b : Placed) (cs : List Placed) (r : Read (List ℕ)) → a.character ≡ backslash → s.is_raw ≡ false → IfOk r (λ x. EscapeOf (b ∷ cs) x.0 x.1) → IfOk r (IfOn s (a ∷ b ∷ cs))
escaped s a b cs (Err e) slash raw h = tt
escaped s a b cs (Ok x) slash raw h = λ on. record {
  text = a.character ∷ h.text;
  split = ap (λ l. a.character ∷ l) h.split;
  is = escapes.Escaped h.text raw (ap (λ c. c ∷ h.text) slash) h.is;
}

-- nothing is read behind a backslash at the end of the text
none_behind : (s : Style) (a : Placed) (r : Read (List ℕ)) → PartLeaves [] r → IfOk r (IfOn s (a ∷ []))
none_behind s a (Err e) h = tt
none_behind s a (Ok x) h = λ on. absurd (let e = ap length h.1 in omega (arith, length-drop {A = Placed} h.0 []))

slash_case : (s : Style) (a : Placed) (cs : List Placed) (raw : Bool) → s.is_raw ≡ raw → a.character ≡ backslash → IfOk {T = List ℕ × List Placed} (if raw then Ok (characters (take 2 (a ∷ cs)), drop 2 (a ∷ cs)) else escape (line_of (a ∷ cs)) cs) (IfOn s (a ∷ cs))
slash_case s a [] true is slash = λ on. absurd (omega arith)
slash_case s a (b ∷ cs) true is slash = λ on. record {
  text = a.character ∷ b.character ∷ [];
  split = refl;
  is = escapes.Kept b.character is (ap (λ c. c ∷ b.character ∷ []) slash) refl;
}
slash_case s a [] false is slash = none_behind s a (escape a.span.line []) (escape_leaves a.span.line [])
slash_case s a (b ∷ cs) false is slash =
    escaped s a b cs (escape a.span.line (b ∷ cs)) slash is (escape_spelled a.span.line b cs)

three_quotes : (is_triple : Bool) (quote : ℕ) → is_triple ≡ true → length (replicate (if is_triple then 3 else 1) quote) ≡ 3
three_quotes true quote is = refl
three_quotes false quote is = cc

in_three : (is_triple b : Bool) → b ≡ true → (b && not is_triple) ≡ false → is_triple ≡ true
in_three true b is no_stop = refl
in_three false true is no_stop = cc
in_three false false is no_stop = cc

line_ends : (s : Style) (c : ℕ) → (c == line_feed_character && not s.is_triple) ≡ false → c ≡ line_feed_character → length (quotes s) ≡ 3
line_ends s c no_stop is = three_quotes s.is_triple s.quote (in_three s.is_triple (c == line_feed_character) (eq-eqb c line_feed_character is) no_stop)

element_cases : (stop slash : Bool) (s : Style) (a : Placed) (cs : List Placed) → (a.character == line_feed_character && not s.is_triple) ≡ stop → (a.character == backslash) ≡ slash →
    IfOk {T = List ℕ × List Placed} (if stop then Err (s.line, Unended) else (if slash then (if s.is_raw then Ok (characters (take 2 (a ∷ cs)), drop 2 (a ∷ cs)) else escape (line_of (a ∷ cs)) cs) else Ok (a.character ∷ [], cs))) (IfOn s (a ∷ cs))
element_cases true slash s a cs is_stop is_slash = tt
element_cases false true s a cs is_stop is_slash = slash_case s a cs s.is_raw refl (eqb-true a.character 92 is_slash)
element_cases false false s a cs is_stop is_slash = λ on. record {
  text = a.character ∷ [];
  split = refl;
  is = escapes.Plain a.character (λ e. let f : true ≡ false = sym (eq-eqb a.character 92 e) ∙ is_slash in cc) (line_ends s a.character is_stop) refl refl;
}

element_spelled : (s : Style) (a : Placed) (cs : List Placed) → IfOk (element s (a ∷ cs)) (IfOn s (a ∷ cs))
unfolding element
element_spelled s a cs = element_cases _ _ s a cs refl refl

-- quotes at the front of a rest, and the tests for them
nonzero : (q : ℕ) → is_quote q ≡ true → (0 == q) ≡ false
nonzero q h = elim (one_true (q == byte "\"") (q == byte "'") h) [
  | inl a ↦ ap (λ x. 0 == x) (eqb-true q 34 a)
  | inr b ↦ ap (λ x. 0 == x) (eqb-true q 39 b)
]

no_quote : (q : ℕ) {A : Type 0} → (0 == q) ≡ false → (0 == q) ≡ true → A
no_quote q never is = let e : true ≡ false = sym is ∙ never in cc

abbrev tests : Bool → ℕ → List Placed → Bool
tests is_triple q cs =
    character_at 0 cs == q && (not is_triple || (character_at 1 cs == q && character_at 2 cs == q))

tests_start : (is_triple : Bool) (q : ℕ) (cs : List Placed) → (0 == q) ≡ false → tests is_triple q cs ≡ true → StartsWith (characters cs) (replicate (if is_triple then 3 else 1) q)
tests_start b q [] never h = no_quote q never (first_true _ _ h)
tests_start false q (c ∷ cs) never h = ap (λ x. x ∷ []) (eqb-true c.character q (first_true _ _ h))
tests_start true q (c ∷ []) never h = no_quote q never (first_true _ _ (second_true (c.character == q) _ h))
tests_start true q (c ∷ d ∷ []) never h =
    no_quote q never (second_true (d.character == q) _ (second_true (c.character == q) _ h))
tests_start true q (c ∷ d ∷ e ∷ cs) never h =
    let x = eqb-true c.character q (first_true _ _ h) in
    let y = eqb-true d.character q (first_true _ _ (second_true (c.character == q) _ h)) in
    let z = eqb-true e.character q (second_true (d.character == q) _ (second_true (c.character == q) _ h)) in
    λ i. x i ∷ y i ∷ z i ∷ []

start_three : (q : ℕ) (cs : List Placed) → StartsWith (characters cs) (replicate 3 q) → (character_at 0 cs == q) ≡ true × ((character_at 1 cs == q && character_at 2 cs == q) ≡ true)
start_three q [] h = let e : [] ≡ q ∷ q ∷ q ∷ [] = h in cc
start_three q (c ∷ []) h = let e : c.character ∷ [] ≡ q ∷ q ∷ q ∷ [] = h in cc
start_three q (c ∷ d ∷ []) h = let e : c.character ∷ d.character ∷ [] ≡ q ∷ q ∷ q ∷ [] = h in cc
start_three q (c ∷ d ∷ e ∷ cs) h =
    let all : c.character ∷ d.character ∷ e.character ∷ [] ≡ q ∷ q ∷ q ∷ [] = h in
    let x : c.character ≡ q = cc in
    let y : d.character ≡ q = cc in
    let z : e.character ≡ q = cc in
    (eq-eqb c.character q x, rw (eq-eqb d.character q y) (eq-eqb e.character q z))

start_one : (q : ℕ) (cs : List Placed) → StartsWith (characters cs) (replicate 1 q) → (character_at 0 cs == q) ≡ true
start_one q [] h = let e : [] ≡ q ∷ [] = h in cc
start_one q (c ∷ cs) h =
    let all : c.character ∷ [] ≡ q ∷ [] = h in let x : c.character ≡ q = cc in eq-eqb c.character q x

start_tests : (is_triple : Bool) (q : ℕ) (cs : List Placed) → StartsWith (characters cs) (replicate (if is_triple then 3 else 1) q) → tests is_triple q cs ≡ true
start_tests true q cs h = let t = start_three q cs h in rw t.0 t.1
start_tests false q cs h = rw (start_one q cs h) refl

quotes_length : (is_triple : Bool) (q : ℕ) → length (replicate (if is_triple then 3 else 1) q) ≡ (if is_triple then 3 else 1)
quotes_length true q = refl
quotes_length false q = refl

-- the quotes, and what stands behind them
quotes_split : (s : Style) (cs : List Placed) → is_quote s.quote ≡ true → closes s cs ≡ true → characters cs ≡ quotes s ++ characters (drop (quote_len s) cs)
quotes_split s cs quote h =
    let front : take (length (quotes s)) (characters cs) ≡ quotes s = tests_start s.is_triple s.quote cs (nonzero s.quote quote) h in
    let count : length (quotes s) ≡ quote_len s = quotes_length s.is_triple s.quote in
    front_split (quote_len s) cs
    ∙ ap (λ l. l ++ characters (drop (quote_len s) cs)) (sym (take-map (λ (c : Placed). c.character) (quote_len s) cs) ∙ ap (λ n. take n (characters cs)) (sym count) ∙ front)

-- the elements up to the closing quotes
record BodyOf (s : Style) (cs : List Placed) (value : List ℕ) (rest : List Placed) : Type 0 where
  pub elements : List Element
  pub split : characters cs ≡ written elements ++ (quotes s ++ characters rest)
  pub are : AreElements s.is_raw (quotes s) elements (characters rest)
  pub is : value ≡ stands_for elements

some_quotes : (is_triple : Bool) (q : ℕ) → 0 < length (replicate (if is_triple then 3 else 1) q)
some_quotes true q = omega arith
some_quotes false q = omega arith

some_behind : (s : Style) (cs : List Placed) (front rest : List ℕ) → characters cs ≡ front ++ (quotes s ++ rest) → 0 < length cs
some_behind s cs front rest split =
    let n = length-map cs (λ (c : Placed). c.character) in
    let l = ap length split in
    let m = length-append front (quotes s ++ rest) in
    let k = length-append (quotes s) rest in
    let some : 0 < length (quotes s) = some_quotes s.is_triple s.quote in
    omega arith

front_on : (s : Style) (cs : List Placed) (x : List ℕ × List Placed) (r : Read (List ℕ)) → IfOn s cs x → ¬ StartsWith (characters cs) (quotes s) → IfOk r (λ y. BodyOf s x.1 y.0 y.1) → IfOk (with_front x.0 r) (λ y. BodyOf s cs y.0 y.1)
front_on s cs x (Err f) on going h = tt
front_on s cs x (Ok y) on going h =
    let e = on (some_behind s x.1 (written h.elements) (characters y.1) h.split) in
    let whole : characters cs ≡ e.text ++ (written h.elements ++ (quotes s ++ characters y.1)) = e.split ∙ ap (λ l. e.text ++ l) h.split in
    record {
      elements = record { text = e.text; value = x.0 } ∷ h.elements;
      split = whole ∙ sym (append_assoc e.text (written h.elements) (quotes s ++ characters y.1));
      are = (
        subst (λ l. IsElement s.is_raw (quotes s) e.text l x.0) h.split e.is,
        subst (λ l. ¬ StartsWith l (quotes s)) whole going,
        h.are,
      );
      is = ap (λ l. x.0 ++ l) h.is;
    }

element_on : (n : ℕ) (s : Style) (cs : List Placed) (r : Read (List ℕ)) → IfOk r (IfOn s cs) → ¬ StartsWith (characters cs) (quotes s) → ((rest : List Placed) → IfOk (body n s rest) (λ y. BodyOf s rest y.0 y.1)) → IfOk (r >>= λ x. with_front x.0 (body n s x.1)) (λ y. BodyOf s cs y.0 y.1)
element_on n s cs (Err f) h going more = tt
element_on n s cs (Ok x) h going more = front_on s cs x (body n s x.1) h going (more x.1)

body_case : (b : Bool) (n : ℕ) (s : Style) (c : Placed) (cs : List Placed) → is_quote s.quote ≡ true → closes s (c ∷ cs) ≡ b → ((rest : List Placed) → IfOk (body n s rest) (λ y. BodyOf s rest y.0 y.1)) →
    IfOk {T = List ℕ × List Placed} (if b then Ok ([], drop (quote_len s) (c ∷ cs)) else (element s (c ∷ cs) >>= λ x. with_front x.0 (body n s x.1))) (λ y. BodyOf s (c ∷ cs) y.0 y.1)
body_case true n s c cs quote is more = record {
  elements = [];
  split = quotes_split s (c ∷ cs) quote is;
  are = tt;
  is = refl;
}
body_case false n s c cs quote is more =
    element_on n s (c ∷ cs) (element s (c ∷ cs)) (element_spelled s c cs)
    (λ h. let e : true ≡ false = sym (start_tests s.is_triple s.quote (c ∷ cs) h) ∙ is in cc)
    more

body_spelled : (n : ℕ) (s : Style) (cs : List Placed) → is_quote s.quote ≡ true → IfOk (body n s cs) (λ y. BodyOf s cs y.0 y.1)
unfolding body
body_spelled n s [] quote = tt
body_spelled zero s (c ∷ cs) quote = tt
body_spelled (suc n) s (c ∷ cs) quote =
    body_case (closes s (c ∷ cs)) n s c cs quote refl (λ rest. body_spelled n s rest quote)

-- prefixes
abbrev IsPrefix : List ℕ → Bool → Type 0
IsPrefix text is_raw = Contains string_prefixes (text, is_raw)

abbrev PrefixIs : List ℕ → Prefix → Type 0
PrefixIs text Plain = IsPrefix text false
PrefixIs text Raw = IsPrefix text true
PrefixIs text Other = Unit {0}

lower_cases : (c x : ℕ) (a b : Bool) → cond a c (cond b (c + 32) c) ≡ x → (c ≡ x) ⊎ (c + 32 ≡ x)
lower_cases c x true b h = inl h
lower_cases c x false true h = inr h
lower_cases c x false false h = inl h

one_letter : (text : List ℕ) (x : ℕ) → map to_ascii_lowercase text ≡ x ∷ [] → (c : ℕ) × (text ≡ c ∷ []) × ((c ≡ x) ⊎ (c + 32 ≡ x))
one_letter [] x h = cc
one_letter (c ∷ []) x h =
    let e : to_ascii_lowercase c ≡ x = cc in (c, refl, lower_cases c x _ _ e)
one_letter (c ∷ d ∷ cs) x h = cc

prefix_at : (text : List ℕ) (c x k : ℕ) (is_raw : Bool) → text ≡ c ∷ [] → c ≡ x → slice_get string_prefixes k ≡ Some (x ∷ [], is_raw) → IsPrefix text is_raw
prefix_at text c x k is_raw is letter at =
    row_of string_prefixes k (text, is_raw) (at ∙ ap (λ y. Some (y ∷ [], is_raw)) (sym letter) ∙ ap (λ l. Some (l, is_raw)) (sym is))

empty_text : (text : List ℕ) → map to_ascii_lowercase text ≡ [] → text ≡ []
empty_text [] h = refl
empty_text (c ∷ cs) h = cc

u_prefix : (text : List ℕ) → map to_ascii_lowercase text ≡ codes "u" → IsPrefix text false
u_prefix text h =
    let l = one_letter text 117 h in
    elim l.2 [
      | inl same ↦ prefix_at text l.0 117 1 false l.1 same refl
      | inr up ↦ prefix_at text l.0 85 2 false l.1 (omega arith) refl
    ]

r_prefix : (text : List ℕ) → map to_ascii_lowercase text ≡ codes "r" → IsPrefix text true
r_prefix text h =
    let l = one_letter text 114 h in
    elim l.2 [
      | inl same ↦ prefix_at text l.0 114 3 true l.1 same refl
      | inr up ↦ prefix_at text l.0 82 4 true l.1 (omega arith) refl
    ]

-- a prefix that is not there
found_other : (text : List ℕ) (e : List ℕ × Prefix) (es : List (List ℕ × Prefix)) (b : Bool) (q : Prefix) → e.1 ≡ Other → (lookup text es ≡ Some q → q ≡ Other) → (if b then Some e.1 else lookup text es) ≡ Some q → q ≡ Other
found_other text e es true q is more h = let x : e.1 ≡ q = cc in sym x ∙ is
found_other text e es false q is more h = more h

all_other : (text : List ℕ) (es : List (List ℕ × Prefix)) (q : Prefix) → AllByRecursion (λ e. e.1 ≡ Other) es → lookup text es ≡ Some q → q ≡ Other
all_other text [] q all h = cc
all_other text (e ∷ es) q all h =
    found_other text e es (bytes_eq text e.0) q all.0 (all_other text es q all.1) h

abbrev other_prefixes : List (List ℕ × Prefix)
other_prefixes =
    (codes "b", Other) ∷ (codes "br", Other) ∷ (codes "rb", Other) ∷ (codes "f", Other) ∷ (codes "fr", Other) ∷ (codes "rf", Other) ∷ []

prefix_cases : (text : List ℕ) (p : Prefix) (none u r : Bool) → bytes_eq (map to_ascii_lowercase text) (codes "") ≡ none → bytes_eq (map to_ascii_lowercase text) (codes "u") ≡ u → bytes_eq (map to_ascii_lowercase text) (codes "r") ≡ r →
    (if none then Some Plain else (if u then Some Plain else (if r then Some Raw else lookup (map to_ascii_lowercase text) other_prefixes))) ≡ Some p → PrefixIs text p
prefix_cases text p true u r is_none is_u is_r h =
    let e : Plain ≡ p = cc in
    subst (PrefixIs text) e (row_of string_prefixes 0 (text, false) (ap (λ l. Some (l, false)) (sym (empty_text text ((bytes_eq-Decides (map to_ascii_lowercase text) []).0 is_none)))))
prefix_cases text p false true r is_none is_u is_r h =
    let e : Plain ≡ p = cc in
    subst (PrefixIs text) e (u_prefix text ((bytes_eq-Decides (map to_ascii_lowercase text) (codes "u")).0 is_u))
prefix_cases text p false false true is_none is_u is_r h =
    let e : Raw ≡ p = cc in
    subst (PrefixIs text) e (r_prefix text ((bytes_eq-Decides (map to_ascii_lowercase text) (codes "r")).0 is_r))
prefix_cases text p false false false is_none is_u is_r h =
    subst (PrefixIs text) (sym (all_other (map to_ascii_lowercase text) other_prefixes p (refl, (refl, (refl, (refl, (refl, (refl, tt)))))) h)) tt

prefix_is : (text : List ℕ) (p : Prefix) → prefix_of text ≡ Some p → PrefixIs text p
prefix_is text p h = prefix_cases text p _ _ _ refl refl refl h

-- the whole string
joined : (a b c d e : List ℕ) → a ++ (b ++ (c ++ (d ++ e))) ≡ (a ++ (b ++ (c ++ d))) ++ e
joined a b c d e = simp append_assoc

test_or : (b : Bool) → (not b || b) ≡ true
test_or true = refl
test_or false = refl

opens : (is_raw : Bool) (line : ℕ) (cs : List Placed) → closes (style is_raw line cs) cs ≡ true
opens is_raw line cs =
    rw (eq-eqb (character_at 0 cs) (character_at 0 cs) refl) (test_or (character_at 1 cs == character_at 0 cs && character_at 2 cs == character_at 0 cs))

abbrev count : Bool → ℕ
count is_triple = if is_triple then 3 else 1

one_or_three : (b : Bool) (q : ℕ) (cs : List Placed) (inner rest : List ℕ) → (character_at 1 cs == q && character_at 2 cs == q) ≡ b → characters cs ≡ replicate (count b) q ++ (inner ++ (replicate (count b) q ++ rest)) →
    ((count b ≡ 1) × ¬ StartsWith (replicate 1 q ++ (inner ++ (replicate 1 q ++ rest))) (replicate 3 q)) ⊎ (count b ≡ 3)
one_or_three true q cs inner rest is split = inr refl
one_or_three false q cs inner rest is split = inl (
  refl,
  λ h.
      let t = start_three q cs (subst (λ l. StartsWith l (replicate 3 q)) (sym split) h) in
      let e : true ≡ false = sym t.1 ∙ is in
      cc,
)

quote_is : (q : ℕ) → is_quote q ≡ true → (q ≡ byte "'") ⊎ (q ≡ byte "\"")
quote_is q h = elim (one_true (q == byte "\"") (q == byte "'") h) [
  | inl a ↦ inr (eqb-true q 34 a)
  | inr b ↦ inl (eqb-true q 39 b)
]

string_of : (cs : List Placed) (is_raw : Bool) (line : ℕ) (r : Read (List ℕ)) → IsPrefix (word_at cs) is_raw → is_quote (character_at 0 (past_word cs)) ≡ true →
    IfOk r (λ y. BodyOf (style is_raw line (past_word cs)) (drop (quote_len (style is_raw line (past_word cs))) (past_word cs)) y.0 y.1) →
    IfOk {T = TokenKind × List Placed} (r >>= λ x. Ok (token.Str (encode_utf8_all x.0), x.1)) (λ x. Spelled cs x.0 x.1)
string_of cs is_raw line (Err f) prefix quote h = tt
string_of cs is_raw line (Ok x) prefix quote h =
    let s = style is_raw line (past_word cs) in
    let opened : characters (past_word cs) ≡ quotes s ++ (written h.elements ++ (quotes s ++ characters x.1)) = quotes_split s (past_word cs) quote (opens is_raw line (past_word cs)) ∙ ap (λ l. quotes s ++ l) h.split in
    record {
      text = word_at cs ++ (quotes s ++ (written h.elements ++ quotes s));
      split =
          front_split (word_len cs) cs
          ∙ ap (λ l. word_at cs ++ l) opened
          ∙ joined (word_at cs) (quotes s) (written h.elements) (quotes s) (characters x.1);
      spells = record {
        prefix = word_at cs;
        is_raw = is_raw;
        quote = s.quote;
        count = quote_len s;
        elements = h.elements;
        is_prefix = prefix;
        is_quote = quote_is s.quote quote;
        split = refl;
        one_or_three = one_or_three s.is_triple s.quote (past_word cs) (written h.elements) (characters x.1) refl opened;
        are_elements = h.are;
        value = ap encode_utf8_all h.is;
      };
    }

prefixed_spelled : (o : Option Prefix) (cs : List Placed) → prefix_of (word_at cs) ≡ o → is_quote (character_at 0 (past_word cs)) ≡ true → IfOk (prefixed o cs (past_word cs)) (λ x. Spelled cs x.0 x.1)
prefixed_spelled (Some Plain) cs is quote =
    let s = style false (line_of cs) (past_word cs) in
    string_of cs false (line_of cs) (body (length (past_word cs)) s (drop (quote_len s) (past_word cs))) (prefix_is (word_at cs) Plain is) quote (body_spelled (length (past_word cs)) s _ quote)
prefixed_spelled (Some Raw) cs is quote =
    let s = style true (line_of cs) (past_word cs) in
    string_of cs true (line_of cs) (body (length (past_word cs)) s (drop (quote_len s) (past_word cs))) (prefix_is (word_at cs) Raw is) quote (body_spelled (length (past_word cs)) s _ quote)
prefixed_spelled (Some Other) cs is quote = tt
prefixed_spelled None cs is quote = tt

pub string_spelled : (cs : List Placed) → begins_string cs ≡ true → IfOk (string_at cs) (λ x. Spelled cs x.0 x.1)
unfolding string_at
string_spelled cs h = prefixed_spelled (prefix_of (word_at cs)) cs refl (first_true _ _ h)
