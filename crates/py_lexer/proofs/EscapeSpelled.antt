-- Escapes, and the elements of a string.
use Rattle.std.proofs.Common.{◌≡◌, ◌≢◌, ℕ, ◌<◌, ◌≤◌, Bool, true, false, List, [], ◌∷◌, ◌++◌, map, length, take, drop, min, Option, Some, None, Ok, Err, refl, ap, sym, subst, ◌∙◌, arith, ◌⊎◌, inl, inr, eqb-true, ltb-false, slice_get, is_some}
use Rattle.std.specs.Prelude.{IfOk, if◌then◌else◌, ◌==◌, ◌||◌, nat_lt}
use Rattle.std.specs.Char.{is_digit, digit_value}
use Rattle.std.specs.List.{list_all, AllByRecursion}
use Rattle.std.specs.Str.{byte}
use Rattle.std.specs.Str.Parse.{digits_value}
use Rattle.std.proofs.lemmas.List.{length-map, length-take}
use lib.Utf8.{scalar, scalar_cases}
use Rattle.py_lexer.specs.declared.fault.LexKind.TheVariants.{BadString}
use Rattle.py_lexer.specs.declared.placed.Placed.{Placed}
use Rattle.py_lexer.specs.Places.{characters, character_at, line_feed_character}
use Rattle.py_lexer.specs.Reading.{Fault}
use Rattle.py_lexer.specs.Strings.{backslash, is_quote, simple_escape, if_scalar, character_named, named_or_fault, hex_len, hex_escape, octal_len, octal_escape, escape_or_both, escape}
use Rattle.py_lexer.specs.Digits.{IsDigit, AreDigits, place_value, NextIsNot}
use Rattle.py_lexer.specs.Escapes.{simple_escapes, hex_letters, escape_signs, IsScalar, IsEscape, Joins, Simple, Octal, Hex, Stays}
use Rattle.py_lexer.proofs.Spelled.{front_split, one_true, first_true, second_true, row_of}
use Rattle.py_lexer.proofs.DigitLemmas.{are_digits, digit_back, value_is}

-- what was read of a string is a part of it with its meaning
pub record EscapeOf (cs : List Placed) (value : List ℕ) (rest : List Placed) : Type 0 where
  pub text : List ℕ
  pub split : characters cs ≡ text ++ characters rest
  pub is : IsEscape text (characters rest) value

-- a character that digits name
record Named (base c : ℕ) (digits : List ℕ) : Type 0 where
  pub are : AreDigits base (map digit_value digits) digits
  pub value : c ≡ place_value base (map digit_value digits)
  pub is_scalar : IsScalar (place_value base (map digit_value digits))

to_scalar : (n : ℕ) → scalar n ≡ true → IsScalar n
to_scalar n h = elim (scalar_cases n h) [ inl a ↦ inl a | inr b ↦ inr (b.0, let c = b.1 in omega arith) ]

scalar_case : (n c : ℕ) (b : Bool) → scalar n ≡ b → (if b then Some n else None) ≡ Some c → (c ≡ n) × IsScalar n
scalar_case n c true is found = (let e : c ≡ n = cc in e, to_scalar n is)
scalar_case n c false is found = cc

named_case : (base c : ℕ) (digits : List ℕ) (b : Bool) → base ≤ 16 → list_all (λ d. is_digit d base) digits ≡ b → (if b then if_scalar (digits_value base digits) else None) ≡ Some c → Named base c digits
named_case base c digits false small is found = cc
named_case base c digits true small is found =
    let h = scalar_case (digits_value base digits) c (scalar (digits_value base digits)) refl found in
    record {
      are = are_digits base digits small is;
      value = h.0 ∙ value_is base digits;
      is_scalar = subst IsScalar (value_is base digits) h.1;
    }

named_is : (base c : ℕ) (digits : List ℕ) → base ≤ 16 → character_named base digits ≡ Some c → Named base c digits
named_is base c digits small found =
    named_case base c digits (list_all (λ d. is_digit d base) digits) small refl found

digits_length : (n : ℕ) (cs : List Placed) → length (map digit_value (characters (take n cs))) ≡ min n (length cs)
digits_length n cs =
    length-map (characters (take n cs)) digit_value ∙ length-map (take n cs) (λ (c : Placed). c.character) ∙ length-take n cs

-- octal digits: three, or fewer with no further one behind them
record Octals (n : ℕ) (cs : List Placed) : Type 0 where
  pub some : 1 ≤ n
  pub within : n ≤ length cs
  pub longest : (n ≡ 3) ⊎ ((n < 3) × NextIsNot (λ c. (d : ℕ) × IsDigit 8 c d) (characters (drop n cs)))

no_octal : (cs : List Placed) → is_digit (character_at 0 cs) 8 ≡ false → NextIsNot (λ c. (d : ℕ) × IsDigit 8 c d) (characters cs)
no_octal [] h = tt
no_octal (c ∷ cs) h = λ d. let e : true ≡ false = sym (digit_back 8 c.character d.0 (omega arith) d.1) ∙ h in cc

octals_two : (a b : Placed) (cs : List Placed) (o : Bool) → is_digit (character_at 0 cs) 8 ≡ o → Octals (if o then 3 else 2) (a ∷ b ∷ cs)
octals_two a b [] true is = cc
octals_two a b (c ∷ cs) true is = record { some = omega arith; within = omega arith; longest = inl refl }
octals_two a b cs false is = record { some = omega arith; within = omega arith; longest = inr (omega arith, no_octal cs is) }

octals_one : (a : Placed) (cs : List Placed) (o : Bool) → is_digit (character_at 0 cs) 8 ≡ o → Octals (if o then (if is_digit (character_at 1 cs) 8 then 3 else 2) else 1) (a ∷ cs)
octals_one a [] true is = cc
octals_one a (b ∷ cs) true is = octals_two a b cs (is_digit (character_at 0 cs) 8) refl
octals_one a cs false is = record { some = omega arith; within = omega arith; longest = inr (omega arith, no_octal cs is) }

octals : (a : Placed) (cs : List Placed) → Octals (octal_len (a ∷ cs)) (a ∷ cs)
octals a cs = octals_one a cs (is_digit (character_at 0 cs) 8) refl

octal_of : (n : ℕ) (cs : List Placed) (o : Option ℕ) (f : Fault) → Octals n cs → character_named 8 (characters (take n cs)) ≡ o → IfOk (named_or_fault o (drop n cs) f) (λ x. EscapeOf cs x.0 x.1)
octal_of n cs None f h is = tt
octal_of n cs (Some c) f h is =
    let named = named_is 8 c (characters (take n cs)) (omega arith) is in
    let ds = map digit_value (characters (take n cs)) in
    let count : length ds ≡ n = (let l = digits_length n cs in let w = h.within in omega arith) in
    record {
      text = characters (take n cs);
      split = front_split n cs;
      is = Octal ds named.are (subst (λ m. 1 ≤ m) (sym count) h.some)
          (subst (λ m. (m ≡ 3) ⊎ ((m < 3) × NextIsNot (λ c. (d : ℕ) × IsDigit 8 c d) (characters (drop n cs)))) (sym count) h.longest)
          (ap (λ x. x ∷ []) named.value) named.is_scalar;
    }

-- hexadecimal digits
letter_at : (c x n k : ℕ) → c ≡ x → slice_get hex_letters k ≡ Some (x, n) → (k : ℕ) × (slice_get hex_letters k ≡ Some (c, n))
letter_at c x n k is at = (k, at ∙ ap (λ y. Some (y, n)) (sym is))

letter_cases : (c : ℕ) (x u w : Bool) → (c == byte "x") ≡ x → (c == byte "u") ≡ u → (c == byte "U") ≡ w → nat_lt 0 (if x then 2 else (if u then 4 else (if w then 8 else 0))) ≡ true → (k : ℕ) × (slice_get hex_letters k ≡ Some (c, if x then 2 else (if u then 4 else (if w then 8 else 0))))
letter_cases c true u w is_x is_u is_w h = letter_at c (byte "x") 2 0 (eqb-true c _ is_x) refl
letter_cases c false true w is_x is_u is_w h = letter_at c (byte "u") 4 1 (eqb-true c _ is_u) refl
letter_cases c false false true is_x is_u is_w h = letter_at c (byte "U") 8 2 (eqb-true c _ is_w) refl
letter_cases c false false false is_x is_u is_w h = cc

hex_letter : (c : ℕ) → nat_lt 0 (hex_len c) ≡ true → (k : ℕ) × (slice_get hex_letters k ≡ Some (c, hex_len c))
hex_letter c h = letter_cases c _ _ _ refl refl refl h

hex_named : (a : Placed) (cs : List Placed) (n : ℕ) (o : Option ℕ) (f : Fault) → (k : ℕ) × (slice_get hex_letters k ≡ Some (a.character, n)) → n ≤ length cs → character_named 16 (characters (take n cs)) ≡ o → IfOk (named_or_fault o (drop n cs) f) (λ x. EscapeOf (a ∷ cs) x.0 x.1)
hex_named a cs n None f letter within is = tt
hex_named a cs n (Some c) f letter within is =
    let named = named_is 16 c (characters (take n cs)) (omega arith) is in
    let ds = map digit_value (characters (take n cs)) in
    let count : length ds ≡ n = (let l = digits_length n cs in omega arith) in
    record {
      text = a.character ∷ characters (take n cs);
      split = ap (λ l. a.character ∷ l) (front_split n cs);
      is = Hex a.character (characters (take n cs)) ds refl (row_of hex_letters letter.0 (a.character, length ds) (letter.1 ∙ ap (λ m. Some (a.character, m)) (sym count))) named.are (ap (λ x. x ∷ []) named.value) named.is_scalar;
    }

hex_of : (a : Placed) (cs : List Placed) (n : ℕ) (b : Bool) (f : Fault) → (k : ℕ) × (slice_get hex_letters k ≡ Some (a.character, n)) → nat_lt (length cs) n ≡ b → IfOk {T = List ℕ × List Placed} (if b then Err f else named_or_fault (character_named 16 (characters (take n cs))) (drop n cs) f) (λ x. EscapeOf (a ∷ cs) x.0 x.1)
hex_of a cs n true f letter is = tt
hex_of a cs n false f letter is =
    hex_named a cs n (character_named 16 (characters (take n cs))) f letter (ltb-false (length cs) n is) refl

-- one character behind a backslash
abbrev IsSimple : ℕ → ℕ → Type 0
IsSimple c d = (k : ℕ) × (slice_get simple_escapes k ≡ Some (c, d))

entry : (c d x y k : ℕ) → c ≡ x → Some y ≡ Some d → slice_get simple_escapes k ≡ Some (x, y) → IsSimple c d
entry c d x y k is found at =
    let e : y ≡ d = cc in (k, at ∙ ap (λ z. Some (z, y)) (sym is) ∙ ap (λ z. Some (c, z)) e)

itself : (c d : ℕ) → (c == backslash || is_quote c) ≡ true → Some c ≡ Some d → IsSimple c d
itself c d h found = elim (one_true (c == backslash) (is_quote c) h) [
  | inl a ↦ let e = eqb-true c 92 a in entry c d 92 92 0 e (ap Some (sym e) ∙ found) refl
  | inr q ↦ elim (one_true (c == byte "\"") (c == byte "'") q) [
    | inl a ↦ let e = eqb-true c 34 a in entry c d 34 34 2 e (ap Some (sym e) ∙ found) refl
    | inr b ↦ let e = eqb-true c 39 b in entry c d 39 39 1 e (ap Some (sym e) ∙ found) refl
  ]
]

simple_cases : (c d : ℕ) (s a b t n v f r : Bool) → (c == backslash || is_quote c) ≡ s → (c == byte "a") ≡ a → (c == byte "b") ≡ b → (c == byte "t") ≡ t → (c == byte "n") ≡ n → (c == byte "v") ≡ v → (c == byte "f") ≡ f → (c == byte "r") ≡ r →
    (if s then Some c else (if a then Some 7 else (if b then Some 8 else (if t then Some 9 else (if n then Some 10 else (if v then Some 11 else (if f then Some 12 else (if r then Some 13 else None)))))))) ≡ Some d → IsSimple c d
simple_cases c d true a b t n v f r ps pa pb pt pn pv pf pr found = itself c d ps found
simple_cases c d false true b t n v f r ps pa pb pt pn pv pf pr found = entry c d _ 7 3 (eqb-true c _ pa) found refl
simple_cases c d false false true t n v f r ps pa pb pt pn pv pf pr found = entry c d _ 8 4 (eqb-true c _ pb) found refl
simple_cases c d false false false true n v f r ps pa pb pt pn pv pf pr found = entry c d _ 9 8 (eqb-true c _ pt) found refl
simple_cases c d false false false false true v f r ps pa pb pt pn pv pf pr found = entry c d _ 10 6 (eqb-true c _ pn) found refl
simple_cases c d false false false false false true f r ps pa pb pt pn pv pf pr found = entry c d _ 11 9 (eqb-true c _ pv) found refl
simple_cases c d false false false false false false true r ps pa pb pt pn pv pf pr found = entry c d _ 12 5 (eqb-true c _ pf) found refl
simple_cases c d false false false false false false false true ps pa pb pt pn pv pf pr found = entry c d _ 13 7 (eqb-true c _ pr) found refl
simple_cases c d false false false false false false false false ps pa pb pt pn pv pf pr found = cc

simple_is : (c d : ℕ) → simple_escape c ≡ Some d → IsSimple c d
simple_is c d found = simple_cases c d _ _ _ _ _ _ _ _ refl refl refl refl refl refl refl refl found

-- any other character stays
abbrev begins_escape : ℕ → Bool
begins_escape c = c == line_feed_character || (is_digit c 8 || (nat_lt 0 (hex_len c) || (c == byte "N" || is_some (simple_escape c))))

each_begins : list_all begins_escape escape_signs ≡ true
each_begins = refl

none_of : (p : ℕ → Bool) (c : ℕ) (ds : List ℕ) → p c ≡ false → list_all p ds ≡ true → AllByRecursion (λ d. c ≢ d) ds
none_of p c [] h all = tt
none_of p c (d ∷ ds) h all = (
  λ e. let f : true ≡ false = sym (first_true _ _ all) ∙ ap p (sym e) ∙ h in cc,
  none_of p c ds h (second_true (p d) _ all),
)

letter_of : (a : Placed) (cs : List Placed) (o : Option ℕ) → simple_escape a.character ≡ o → (a.character == line_feed_character) ≡ false → is_digit a.character 8 ≡ false → nat_lt 0 (hex_len a.character) ≡ false → (a.character == byte "N") ≡ false → IfOk (escape_or_both o (a ∷ cs)) (λ x. EscapeOf (a ∷ cs) x.0 x.1)
letter_of a cs (Some d) is end octal hex unknown =
    let s = simple_is a.character d is in
    record { text = a.character ∷ []; split = refl; is = Simple a.character d refl (row_of simple_escapes s.0 (a.character, d) s.1) refl }
letter_of a cs None is end octal hex unknown =
    let other : begins_escape a.character ≡ false = rw (end, octal, hex, unknown) (ap is_some is) in
    record {
      text = a.character ∷ [];
      split = refl;
      is = Stays a.character refl (none_of begins_escape a.character escape_signs other each_begins) refl;
    }

escape_cases : (end octal hex unknown : Bool) (line : ℕ) (a : Placed) (cs : List Placed) → (a.character == line_feed_character) ≡ end → is_digit a.character 8 ≡ octal → nat_lt 0 (hex_len a.character) ≡ hex → (a.character == byte "N") ≡ unknown →
    IfOk {T = List ℕ × List Placed} (if end then Ok ([], cs) else (if octal then octal_escape (line, BadString) (a ∷ cs) else (if hex then hex_escape (line, BadString) (hex_len a.character) cs else (if unknown then Err (line, BadString) else escape_or_both (simple_escape a.character) (a ∷ cs))))) (λ x. EscapeOf (a ∷ cs) x.0 x.1)
escape_cases true octal hex unknown line a cs pe po ph pu = record {
  text = a.character ∷ [];
  split = refl;
  is = Joins (ap (λ c. c ∷ []) (eqb-true a.character 10 pe)) refl;
}
escape_cases false true hex unknown line a cs pe po ph pu =
    octal_of (octal_len (a ∷ cs)) (a ∷ cs) _ (line, BadString) (octals a cs) refl
escape_cases false false true unknown line a cs pe po ph pu =
    hex_of a cs (hex_len a.character) _ (line, BadString) (hex_letter a.character ph) refl
escape_cases false false false true line a cs pe po ph pu = tt
escape_cases false false false false line a cs pe po ph pu =
    letter_of a cs (simple_escape a.character) refl pe po ph pu

pub escape_spelled : (line : ℕ) (a : Placed) (cs : List Placed) → IfOk (escape line (a ∷ cs)) (λ x. EscapeOf (a ∷ cs) x.0 x.1)
unfolding escape
escape_spelled line a cs = escape_cases _ _ _ _ line a cs refl refl refl refl
