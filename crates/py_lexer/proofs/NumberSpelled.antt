-- Numbers: a row of digits and its value.
use Rattle.std.proofs.Common.{◌≡◌, ℕ, suc, ◌^◌, ◌<◌, ◌≤◌, Bool, true, false, cond, not, List, [], ◌∷◌, map, drop, Option, Some, None, Err, refl, ap, sym, subst, ◌∙◌, arith, ◌⊎◌, inl, inr, eqb-true, slice_get, ltb-true}
use Rattle.std.specs.Prelude.{IfOk, if◌then◌else◌, ◌==◌, ◌||◌, ◌&&◌, nat_lt}
use Rattle.std.specs.Char.{is_digit, is_ascii_digit, digit_value}
use Rattle.std.specs.List.{list_all}
use Rattle.std.specs.Str.{byte}
use Rattle.std.specs.Str.Parse.{digits_value}
use Rattle.py_syntax.specs.declared.token.TokenKind.{TokenKind}
use Rattle.py_lexer.specs.declared.placed.Placed.{Placed}
use Rattle.py_lexer.specs.Places.{characters, character_at}
use Rattle.py_lexer.specs.Reading.{Fault}
use Rattle.py_lexer.specs.Words.{word_at, word_len, past_word}
use Rattle.py_lexer.specs.Numbers.{is_underscore, digits_of, begins_with_digit, is_spaced, is_row, below_end, row, unless_zero_leads, decimal, base_of, in_base, numeral, number, number_or_fault}
use Rattle.py_lexer.specs.Digits.{IsRow, place_value, NextIsNot}
use Rattle.py_lexer.specs.Spelling.{IsBased, IsDecimal, base_letters}
use Rattle.py_lexer.proofs.Spelled.{Spelled, front_split, one_true, first_true, second_true, row_of}
use Rattle.py_lexer.proofs.DigitLemmas.{digit_is, value_is}
use Rattle.py_lexer.proofs.WordSpelled.{word_cut}

-- the digits of a row
abbrev digits_in : ℕ → List ℕ → Bool
digits_in base ds = list_all (λ d. is_digit d base) ds

abbrev values : List ℕ → List ℕ
values cs = map digit_value (digits_of cs)

plain_digits : (c : ℕ) (cs : List ℕ) → is_underscore c ≡ false → digits_of (c ∷ cs) ≡ c ∷ digits_of cs
plain_digits c cs is = ap (λ b. cond (not b) (c ∷ digits_of cs) (digits_of cs)) is

under_digits : (c : ℕ) (cs : List ℕ) → is_underscore c ≡ true → digits_of (c ∷ cs) ≡ digits_of cs
under_digits c cs is = ap (λ b. cond (not b) (c ∷ digits_of cs) (digits_of cs)) is

not_true : (b : Bool) → not b ≡ true → b ≡ false
not_true true h = cc
not_true false h = refl

-- a digit, with or without an underscore before it, and the row behind it
digit_on : (base c : ℕ) (cs all : List ℕ) → base ≤ 16 → is_underscore c ≡ false → digits_in base (digits_of (c ∷ cs)) ≡ true → (all ≡ c ∷ cs) ⊎ (all ≡ byte "_" ∷ c ∷ cs) → (digits_in base (digits_of cs) ≡ true → IsRow base (values cs) cs) → IsRow base (values (c ∷ cs)) all
digit_on base c cs all small plain digits split more =
    let here : digits_in base (c ∷ digits_of cs) ≡ true = subst (λ l. digits_in base l ≡ true) (plain_digits c cs plain) digits in
    subst (λ l. IsRow base (map digit_value l) all) (sym (plain_digits c cs plain))
    (c, cs, split, digit_is base c small (first_true _ _ here), more (second_true (is_digit c base) _ here))

row_case : (base c : ℕ) (cs : List ℕ) (b : Bool) → base ≤ 16 → is_underscore c ≡ b → ((not b || begins_with_digit cs) && is_spaced cs) ≡ true → digits_in base (digits_of (c ∷ cs)) ≡ true →
    (is_spaced cs ≡ true → digits_in base (digits_of cs) ≡ true → IsRow base (values cs) cs) →
    ((d : ℕ) (ds : List ℕ) → cs ≡ d ∷ ds → is_spaced ds ≡ true → digits_in base (digits_of ds) ≡ true → IsRow base (values ds) ds) →
    IsRow base (values (c ∷ cs)) (c ∷ cs)
row_case base c cs false small is spaced digits more behind =
    digit_on base c cs (c ∷ cs) small is digits (inl refl) (more spaced)
row_case base c [] true small is spaced digits more behind = cc
row_case base c (d ∷ ds) true small is spaced digits more behind =
    let plain : is_underscore d ≡ false = not_true (is_underscore d) (first_true _ _ spaced) in
    let same : digits_of (c ∷ d ∷ ds) ≡ digits_of (d ∷ ds) = under_digits c (d ∷ ds) is in
    subst (λ l. IsRow base (map digit_value l) (c ∷ d ∷ ds)) (sym same)
    (digit_on base d ds (c ∷ d ∷ ds) small plain (subst (λ l. digits_in base l ≡ true) same digits)
    (inr (ap (λ x. x ∷ d ∷ ds) (eqb-true c 95 is)))
    (behind d ds refl (second_true (not (is_underscore d) || begins_with_digit ds) _ (second_true (begins_with_digit (d ∷ ds)) _ spaced))))

abbrev Rows : ℕ → List ℕ → Type 0
Rows base cs = is_spaced cs ≡ true → digits_in base (digits_of cs) ≡ true → IsRow base (values cs) cs

-- of a row and of what stands behind its first character
rows : (base : ℕ) → base ≤ 16 → (cs : List ℕ) → Rows base cs × Rows base (drop 1 cs)
rows base small [] = (λ s d. refl, λ s d. refl)
rows base small (c ∷ cs) =
    let more = rows base small cs in (
      λ spaced digits. row_case base c cs (is_underscore c) small refl spaced digits more.0 (λ d ds is. subst (λ l. Rows base (drop 1 l)) is more.1),
      more.0,
    )

-- a row that is not empty has a first digit
record RowOf (base n : ℕ) (cs : List ℕ) : Type 0 where
  pub first : ℕ
  pub digits : List ℕ
  pub is_row : IsRow base (first ∷ digits) cs
  pub value : n ≡ place_value base (first ∷ digits)

some_digits : (base n c : ℕ) (cs ds : List ℕ) → IsRow base ds (c ∷ cs) → n ≡ place_value base ds → RowOf base n (c ∷ cs)
some_digits base n c cs [] h value = cc
some_digits base n c cs (d ∷ ds) h value = record { first = d; digits = ds; is_row = h; value = value }

below_cases : (m n : ℕ) (b : Bool) → nat_lt m (2 ^ 127) ≡ b → (if b then Some m else None) ≡ Some n → (m ≡ n) × (n < 2 ^ 127)
below_cases m n true lt is =
    let e : m ≡ n = cc in (e, subst (λ x. x < 2 ^ 127) e (ltb-true m (2 ^ 127) lt))
below_cases m n false lt is = cc

below_is : (m n : ℕ) → below_end m ≡ Some n → (m ≡ n) × (n < 2 ^ 127)
below_is m n is = below_cases m n (nat_lt m (2 ^ 127)) refl is

in_row : (base n : ℕ) (cs : List ℕ) → base ≤ 16 → is_row base cs ≡ true → n ≡ digits_value base (digits_of cs) → IsRow base (values cs) cs × (n ≡ place_value base (values cs))
in_row base n cs small h value =
    ((rows base small cs).0 (first_true _ _ h) (second_true (is_spaced cs) _ h), value ∙ value_is base (digits_of cs))

row_cases : (base n c : ℕ) (cs : List ℕ) (b : Bool) → base ≤ 16 → is_row base (c ∷ cs) ≡ b → (if b then below_end (digits_value base (digits_of (c ∷ cs))) else None) ≡ Some n → RowOf base n (c ∷ cs) × (n < 2 ^ 127)
row_cases base n c cs false small is found = cc
row_cases base n c cs true small is found =
    let below = below_is (digits_value base (digits_of (c ∷ cs))) n found in
    let h = in_row base n (c ∷ cs) small is (sym below.0) in
    (some_digits base n c cs (values (c ∷ cs)) h.0 h.1, below.1)

row_is : (base n : ℕ) (cs : List ℕ) → base ≤ 16 → row base cs ≡ Some n → RowOf base n cs × (n < 2 ^ 127)
row_is base n [] small found = cc
row_is base n (c ∷ cs) small found = row_cases base n c cs (is_row base (c ∷ cs)) small refl found

-- a decimal number
zero_value : (c : ℕ) → is_digit c 10 ≡ true → digit_value c ≡ 0 → c ≡ 48
zero_value c h is = grind arith

decimal_digit : (c : ℕ) → is_ascii_digit c ≡ true → (is_digit c 10 ≡ true) × (is_underscore c ≡ false)
decimal_digit c h = (grind arith, grind arith)

not_48 : (c : ℕ) → c ≡ 48 → (c == 48) ≡ false → ⊥
not_48 c e h = let f : (48 == 48) ≡ false = subst (λ x. (x == 48) ≡ false) e h in cc

unless_cases : (c n m : ℕ) (leads none : Bool) → (c == 48) ≡ leads → (m == 0) ≡ none → (if leads && not none then None else Some m) ≡ Some n → (Some m ≡ Some n) × (c ≡ 48 → n ≡ 0)
unless_cases c n m true true leads none is = (is, λ e. let f : m ≡ n = cc in sym f ∙ eqb-true m 0 none)
unless_cases c n m true false leads none is = cc
unless_cases c n m false true leads none is = (is, λ e. absurd (not_48 c e leads))
unless_cases c n m false false leads none is = (is, λ e. absurd (not_48 c e leads))

unless_is : (c n : ℕ) (o : Option ℕ) → unless_zero_leads c o ≡ Some n → (o ≡ Some n) × (c ≡ 48 → n ≡ 0)
unless_is c n None is = cc
unless_is c n (Some m) is = unless_cases c n m (c == 48) (m == 0) refl refl is

-- behind its first digit the row goes on
decimal_row : (c n : ℕ) (cs : List ℕ) → is_digit c 10 ≡ true → is_underscore c ≡ false → (c ≡ 48 → n ≡ 0) → (b : Bool) → is_row 10 (c ∷ cs) ≡ b → (if b then below_end (digits_value 10 (digits_of (c ∷ cs))) else None) ≡ Some n → IsDecimal n (c ∷ cs) × (n < 2 ^ 127)
decimal_row c n cs digit plain leads false is found = cc
decimal_row c n cs digit plain leads true is found =
    let below = below_is (digits_value 10 (digits_of (c ∷ cs))) n found in
    let here : digits_in 10 (c ∷ digits_of cs) ≡ true = subst (λ l. digits_in 10 l ≡ true) (plain_digits c cs plain) (second_true (is_spaced (c ∷ cs)) _ is) in
    let spaced : is_spaced cs ≡ true = second_true (not (is_underscore c) || begins_with_digit cs) _ (first_true (is_spaced (c ∷ cs)) _ is) in (
      record {
        character = c;
        row = cs;
        first = digit_value c;
        digits = values cs;
        split = refl;
        is_digit = digit_is 10 c (omega arith) digit;
        is_row = (rows 10 (omega arith) cs).0 spaced (second_true (is_digit c 10) _ here);
        value = sym below.0 ∙ ap (digits_value 10) (plain_digits c cs plain) ∙ value_is 10 (c ∷ digits_of cs);
        no_leading_zero = λ e. leads (zero_value c digit e);
      },
      below.1,
    )

decimal_cases : (c n : ℕ) (cs : List ℕ) (b : Bool) → is_ascii_digit c ≡ b → (if b then unless_zero_leads c (row 10 (c ∷ cs)) else None) ≡ Some n → IsDecimal n (c ∷ cs) × (n < 2 ^ 127)
decimal_cases c n cs false is found = cc
decimal_cases c n cs true is found =
    let plain = decimal_digit c is in
    let u = unless_is c n (row 10 (c ∷ cs)) found in
    decimal_row c n cs plain.0 plain.1 u.1 (is_row 10 (c ∷ cs)) refl u.0

decimal_is : (n : ℕ) (cs : List ℕ) → decimal cs ≡ Some n → IsDecimal n cs × (n < 2 ^ 127)
decimal_is n [] found = cc
decimal_is n (c ∷ cs) found = decimal_cases c n cs (is_ascii_digit c) refl found

-- a number of a base
abbrev IsLetter : ℕ → ℕ → Type 0
IsLetter c base = (base ≤ 16) × (k : ℕ) × (slice_get base_letters k ≡ Some (c, base))

letter_at : (c d base k : ℕ) → c ≡ d → base ≤ 16 → slice_get base_letters k ≡ Some (d, base) → IsLetter c base
letter_at c d base k is small at = (small, k, at ∙ ap (λ x. Some (x, base)) (sym is))

-- either case of a letter
letter_case : (c d e base k : ℕ) → (c == d || c == e) ≡ true → base ≤ 16 → slice_get base_letters k ≡ Some (d, base) → slice_get base_letters (suc k) ≡ Some (e, base) → IsLetter c base
letter_case c d e base k h small lower upper = elim (one_true (c == d) (c == e) h) [
  | inl a ↦ letter_at c d base k (eqb-true c d a) small lower
  | inr b ↦ letter_at c e base (suc k) (eqb-true c e b) small upper
]

letter_cases : (c base : ℕ) (x o b : Bool) → (c == byte "x" || c == byte "X") ≡ x → (c == byte "o" || c == byte "O") ≡ o → (c == byte "b" || c == byte "B") ≡ b → (if x then Some 16 else (if o then Some 8 else (if b then Some 2 else None))) ≡ Some base → IsLetter c base
letter_cases c base true o b is_x is_o is_b found =
    let e : 16 ≡ base = cc in subst (IsLetter c) e (letter_case c (byte "x") (byte "X") 16 0 is_x (omega arith) refl refl)
letter_cases c base false true b is_x is_o is_b found =
    let e : 8 ≡ base = cc in subst (IsLetter c) e (letter_case c (byte "o") (byte "O") 8 2 is_o (omega arith) refl refl)
letter_cases c base false false true is_x is_o is_b found =
    let e : 2 ≡ base = cc in subst (IsLetter c) e (letter_case c (byte "b") (byte "B") 2 4 is_b (omega arith) refl refl)
letter_cases c base false false false is_x is_o is_b found = cc

letter_is : (c base : ℕ) → base_of c ≡ Some base → IsLetter c base
letter_is c base found = letter_cases c base _ _ _ refl refl refl found

abbrev IsWritten : ℕ → List ℕ → Type 0
IsWritten n cs = (IsBased n cs ⊎ IsDecimal n cs) × (n < 2 ^ 127)

as_decimal : (n : ℕ) (cs : List ℕ) → decimal cs ≡ Some n → IsWritten n cs
as_decimal n cs found = let d = decimal_is n cs found in (inr d.0, d.1)

based_case : (n c d : ℕ) (cs : List ℕ) (o : Option ℕ) → c ≡ byte "0" → base_of d ≡ o → in_base o cs (c ∷ d ∷ cs) ≡ Some n → IsWritten n (c ∷ d ∷ cs)
based_case n c d cs None is_zero is found = as_decimal n (c ∷ d ∷ cs) found
based_case n c d cs (Some base) is_zero is found =
    let letter = letter_is d base is in
    let r = row_is base n cs letter.0 found in (
      inl (record {
        letter = d;
        base = base;
        row = cs;
        first = r.0.first;
        digits = r.0.digits;
        split = ap (λ x. x ∷ d ∷ cs) is_zero;
        named = row_of base_letters letter.1 (d, base) letter.2;
        is_row = r.0.is_row;
        value = r.0.value;
      }),
      r.1,
    )

zero_case : (n c d : ℕ) (cs : List ℕ) (b : Bool) → (c == byte "0") ≡ b → in_base (if b then base_of d else None) cs (c ∷ d ∷ cs) ≡ Some n → IsWritten n (c ∷ d ∷ cs)
zero_case n c d cs true is found = based_case n c d cs (base_of d) (eqb-true c 48 is) refl found
zero_case n c d cs false is found = as_decimal n (c ∷ d ∷ cs) found

numeral_is : (n : ℕ) (cs : List ℕ) → numeral cs ≡ Some n → IsWritten n cs
numeral_is n [] found = cc
numeral_is n (c ∷ []) found = as_decimal n (c ∷ []) found
numeral_is n (c ∷ d ∷ cs) found = zero_case n c d cs (c == byte "0") refl found

-- no dot follows
no_dot : (rest : List Placed) → (character_at 0 rest == byte ".") ≡ false → NextIsNot (λ c. c ≡ byte ".") (characters rest)
no_dot [] h = tt
no_dot (c ∷ cs) h = λ e. let f : (46 == 46) ≡ false = subst (λ x. (x == 46) ≡ false) e h in cc

number_case : (o : Option ℕ) (cs : List Placed) (f : Fault) → numeral (word_at cs) ≡ o → (character_at 0 (past_word cs) == byte ".") ≡ false → IfOk (number_or_fault o (past_word cs) f) (λ x. Spelled cs x.0 x.1)
number_case None cs f is dot = tt
number_case (Some n) cs f is dot =
    let w = numeral_is n (word_at cs) is in
    record {
      text = word_at cs;
      split = front_split (word_len cs) cs;
      spells = record {
        n = n;
        value = refl;
        fits = w.1;
        is_written = w.0;
        ends = (word_cut cs).1;
        no_dot = no_dot (past_word cs) dot;
      };
    }

dot_case : (b : Bool) (cs : List Placed) (f : Fault) → (character_at 0 (past_word cs) == byte ".") ≡ b → IfOk {T = TokenKind × List Placed} (if b then Err f else number_or_fault (numeral (word_at cs)) (past_word cs) f) (λ x. Spelled cs x.0 x.1)
dot_case true cs f is = tt
dot_case false cs f is = number_case (numeral (word_at cs)) cs f refl is

pub number_spelled : (cs : List Placed) → IfOk (number cs) (λ x. Spelled cs x.0 x.1)
unfolding number
number_spelled cs = dot_case (character_at 0 (past_word cs) == byte ".") cs _ refl
