-- Digits are read one by one, and a number that is too large stays so.
use Rattle.std.proofs.Common.{◌≡◌, ℕ, ◌+◌, ◌*◌, ◌^◌, ◌≤◌, Bool, true, false, sym, ◌∙◌, get_or, ◌≢◌, List, [], ◌∷◌, Option, None, refl, arith, le-ltb, length, ◌<◌}
use Rattle.std.specs.Prelude.{if◌then◌else◌, ◌==◌}
use Rattle.std.specs.Char.{digit_value}
use Rattle.std.specs.Str.Parse.{digits_value_after}
use Rattle.std.proofs.lemmas.Bool.{ne_eqb}
use Rattle.std.proofs.lemmas.List.{length-map}
use Rattle.py_lexer.specs.declared.placed.Placed.{Placed}
use Rattle.py_lexer.specs.Places.{characters}
use Rattle.py_lexer.specs.Numbers.{is_row, digits_of, below_end, row, numeral, decimal}

-- the number that digits write behind those of a value
abbrev pub row_behind : ℕ → ℕ → List ℕ → Option ℕ
row_behind base value cs = if is_row base cs then below_end (digits_value_after base value (digits_of cs)) else None

grows : (value base d : ℕ) → 1 ≤ base → 2 ^ 127 ≤ value → 2 ^ 127 ≤ value * base + d
grows value base d b h = grind arith

stays : (ds : List ℕ) (base value : ℕ) → 1 ≤ base → 2 ^ 127 ≤ value → below_end (digits_value_after base value ds) ≡ None
stays [] base value b h = rw (le-ltb value (2 ^ 127) h) refl
stays (d ∷ ds) base value b h = stays ds base (value * base + digit_value d) b (grows value base (digit_value d) b h)

either : (b : Bool) (x : Option ℕ) → x ≡ None → (if b then x else None) ≡ None
either true x h = h
either false x h = refl

pub stays_too_large : (cs : List ℕ) (base value : ℕ) → 1 ≤ base → 2 ^ 127 ≤ value → row_behind base value cs ≡ None
stays_too_large cs base value b h = either (is_row base cs) _ (stays (digits_of cs) base value b h)

pub row-row_behind : (cs : List ℕ) (base : ℕ) → 0 < length cs → row base cs ≡ row_behind base 0 cs
row-row_behind [] base h = absurd (omega arith)
row-row_behind (c ∷ cs) base h = refl

digit_past : (c : ℕ) (cs : List ℕ) (base value : ℕ) → 1 ≤ base → (c == 95) ≡ false → 2 ^ 127 ≤ value * base + digit_value c → row_behind base value (c ∷ cs) ≡ None
digit_past c cs base value b plain h =
    rw plain (either _ _ (stays (digits_of cs) base (value * base + digit_value c) b h))

-- one digit more makes the number of a row too large
pub too_large : (rest all : List Placed) (nul : Placed) (base value d : ℕ) → 2 ≤ base → 0 < length rest → 0 < length all → row_behind base value (characters rest) ≡ row_behind base 0 (characters all) → (get_or rest 0 nul).character ≢ 95 → d ≡ digit_value (get_or rest 0 nul).character → 2 ^ 127 ≤ value * base + d → row base (characters all) ≡ None
too_large [] all nul base value d b some_rest some so_far plain is h = absurd (omega arith)
too_large (c ∷ cs) all nul base value d b some_rest some so_far plain is h =
    let past : 2 ^ 127 ≤ value * base + digit_value c.character = rw is at h in
    row-row_behind (characters all) base (omega (arith, length-map all (λ x. x.character)))
    ∙ sym so_far ∙ digit_past c.character (characters cs) base value (omega arith) (ne_eqb _ _ plain) past

-- a word of less than two characters names no base
pub short_numeral : (word : List Placed) → length word < 2 → numeral (characters word) ≡ decimal (characters word)
short_numeral [] h = refl
short_numeral (c ∷ []) h = refl
short_numeral (c ∷ d ∷ cs) h = absurd (omega arith)
