-- The digits of an escape, and a string element by element.
use Rattle.std.proofs.Common.{◌≡◌, ℕ, zero, suc, ◌+◌, ◌*◌, ◌<◌, ◌≤◌, Bool, true, false, List, [], ◌∷◌, ◌++◌, Option, None, Ok, Err, length, drop, refl, ap, sym, subst, ◌∙◌, arith, rules, append_assoc, append-nil}
use Rattle.std.specs.Prelude.{if◌then◌else◌, ◌==◌, ◌≢◌, nat_lt}
use Rattle.std.specs.Str.{byte}
use Rattle.std.specs.Char.{is_digit, digit_value}
use Rattle.std.specs.List.{list_all}
use Rattle.std.specs.Str.Parse.{digits_value_after}
use Rattle.std.proofs.lemmas.Bool.{le-ltb, ne_eqb}
use Rattle.py_lexer.specs.declared.fault.LexError.{LexError}
use Rattle.py_lexer.specs.declared.fault.LexError.TheVariants as error
use Rattle.py_lexer.specs.declared.fault.LexKind.TheVariants.{Unended}
use Rattle.py_lexer.specs.declared.placed.Placed.{Placed}
use Rattle.py_lexer.specs.declared.string.Style.{Style}
use Rattle.py_lexer.specs.Places.{character_at, line_feed_character}
use Rattle.py_lexer.specs.Reading.{Read, Fault, Fails, ◌>>=◌}
use Rattle.py_lexer.specs.Strings.{if_scalar, with_front, body, element, closes, quote_len, escape, escape_or_both, simple_escape, hex_len}

-- the character that digits name behind those of a value
abbrev pub named_behind : ℕ → ℕ → List ℕ → Option ℕ
named_behind base value ds =
    if list_all (λ c. is_digit c base) ds then if_scalar (digits_value_after base value ds) else None

grows : (value base d : ℕ) → 2 ≤ base → 0x10FFFF < value → 0x10FFFF < value * base + d
grows value base d b h = grind arith

no_scalar : (n : ℕ) → 0x10FFFF < n → if_scalar n ≡ None
no_scalar n h =
    let a : 0x110000 ≤ n = omega arith in
    let b : 0xD800 ≤ n = omega arith in
    rw (le-ltb n 0xD800 b, le-ltb n 0x110000 a) (search rules)

stays : (ds : List ℕ) (base value : ℕ) → 2 ≤ base → 0x10FFFF < value → if_scalar (digits_value_after base value ds) ≡ None
stays [] base value b h = no_scalar value h
stays (d ∷ ds) base value b h = stays ds base (value * base + digit_value d) b (grows value base (digit_value d) b h)

either : (b : Bool) (x : Option ℕ) → x ≡ None → (if b then x else None) ≡ None
either true x h = h
either false x h = refl

-- a value past the greatest character stays past it
pub too_great : (ds : List ℕ) (base value : ℕ) → 2 ≤ base → 0x10FFFF < value → named_behind base value ds ≡ None
too_great ds base value b h = either (list_all (λ c. is_digit c base) ds) _ (stays ds base value b h)

pub front_none : (r : Read (List ℕ)) → with_front [] r ≡ r
front_none (Ok x) = refl
front_none (Err e) = refl

front_front : (a b : List ℕ) (r : Read (List ℕ)) → with_front a (with_front b r) ≡ with_front (a ++ b) r
front_front a b (Ok x) = ap (λ l. Ok (l, x.1)) (sym (append_assoc a b x.0))
front_front a b (Err e) = refl

-- one element more
pub body_on : (m : ℕ) (s : Style) (rest after : List Placed) (out more out2 : List ℕ) → 0 < length rest → length rest ≤ m → closes s rest ≡ false → element s rest ≡ Ok (more, after) → length after < length rest → out2 ≡ out ++ more →
    (k : ℕ) × (length after ≤ k) × (with_front out (body m s rest) ≡ with_front out2 (body k s after))
unfolding body
body_on m s [] after out more out2 h le going read shorter added = absurd (omega arith)
body_on zero s (c ∷ cs) after out more out2 h le going read shorter added = absurd (omega arith)
body_on (suc m) s (c ∷ cs) after out more out2 h le going read shorter added = (
  m,
  omega arith,
  ap (λ b. with_front out (if b then Ok ([], drop (quote_len s) (c ∷ cs)) else (element s (c ∷ cs) >>= λ x. with_front x.0 (body m s x.1)))) going
      ∙ ap (λ r. with_front out (r >>= λ x. with_front x.0 (body m s x.1))) read
      ∙ front_front out more _
      ∙ ap (λ l. with_front l (body m s after)) (sym added),
)

-- the closing quotes
pub body_closes : (m : ℕ) (s : Style) (rest : List Placed) (out : List ℕ) → 0 < length rest → length rest ≤ m → closes s rest ≡ true → with_front out (body m s rest) ≡ Ok (out, drop (quote_len s) rest)
unfolding body
body_closes m s [] out h le closed = absurd (omega arith)
body_closes zero s (c ∷ cs) out h le closed = absurd (omega arith)
body_closes (suc m) s (c ∷ cs) out h le closed =
    ap (λ b. with_front out (if b then Ok ([], drop (quote_len s) (c ∷ cs)) else (element s (c ∷ cs) >>= λ x. with_front x.0 (body m s x.1)))) closed
    ∙ ap (λ l. Ok (l, drop (quote_len s) (c ∷ cs))) (append-nil out)

body_faults : (m : ℕ) (s : Style) (rest : List Placed) (out : List ℕ) (f : Fault) → 0 < length rest → length rest ≤ m → closes s rest ≡ false → element s rest ≡ Err f → with_front out (body m s rest) ≡ Err f
unfolding body
body_faults m s [] out f h le going read = absurd (omega arith)
body_faults zero s (c ∷ cs) out f h le going read = absurd (omega arith)
body_faults (suc m) s (c ∷ cs) out f h le going read =
    ap (λ b. with_front out (if b then Ok ([], drop (quote_len s) (c ∷ cs)) else (element s (c ∷ cs) >>= λ x. with_front x.0 (body m s x.1)))) going
    ∙ ap (λ r. with_front out (r >>= λ x. with_front x.0 (body m s x.1))) read

-- the end of the text
pub body_over : (m : ℕ) (s : Style) (rest : List Placed) (out : List ℕ) → length rest ≡ 0 → with_front out (body m s rest) ≡ Err (s.line, Unended)
unfolding body
body_over m s [] out h = refl
body_over m s (c ∷ cs) out h = absurd (omega arith)

-- a wrong element
pub body_fails : (m : ℕ) (s : Style) (rest : List Placed) (out : List ℕ) (whole : Read (List ℕ)) (e : LexError) → whole ≡ with_front out (body m s rest) → 0 < length rest → length rest ≤ m → closes s rest ≡ false → Fails e (element s rest) → Fails e whole
body_fails m s rest out whole error.Memory is h le going read = tt
body_fails m s rest out whole (error.Fault line kind) is h le going read = is ∙ body_faults m s rest out (line, kind) h le going read

-- an escape that is a letter or a sign, or not known
by_letter : (line : ℕ) (cs : List Placed) → (character_at 0 cs == line_feed_character) ≡ false → is_digit (character_at 0 cs) 8 ≡ false → nat_lt 0 (hex_len (character_at 0 cs)) ≡ false → (character_at 0 cs == byte "N") ≡ false → escape line cs ≡ escape_or_both (simple_escape (character_at 0 cs)) cs
unfolding escape
by_letter line cs a b h n = rw (a, b, h, n) refl

pub escape_letter : (line : ℕ) (cs : List Placed) (c : ℕ) → c ≡ character_at 0 cs → c ≢ line_feed_character → is_digit c 8 ≡ false → hex_len c ≡ 0 → c ≢ byte "N" → escape line cs ≡ escape_or_both (simple_escape c) cs
escape_letter line cs c is a b h n =
    by_letter line cs
    (subst (λ x. (x == line_feed_character) ≡ false) is (ne_eqb c line_feed_character a))
    (subst (λ x. is_digit x 8 ≡ false) is b)
    (subst (λ x. nat_lt 0 (hex_len x) ≡ false) is (rw h refl))
    (subst (λ x. (x == byte "N") ≡ false) is (ne_eqb c 78 n))
    ∙ ap (λ x. escape_or_both (simple_escape x) cs) (sym is)
