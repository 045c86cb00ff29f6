-- Digits and the number that they write, and what may not follow a row of them.
use Rattle.std.specs.Prelude.{◌≡◌, ◌⊎◌, ◌<◌, ◌+◌, ◌*◌, ◌^◌, ℕ, List, [], ◌∷◌, length, codes, Some, slice_get}
use Rattle.std.specs.Str.{byte}

-- the digits by their values, from 0 on; those above 9 are letters in either case
abbrev pub digits_lower : List ℕ
digits_lower = codes "0123456789abcdef"

abbrev pub digits_upper : List ℕ
digits_upper = codes "0123456789ABCDEF"

-- a character is the digit d of a base
abbrev pub IsDigit : ℕ → ℕ → ℕ → Type 0
IsDigit base c d = (d < base) × ((slice_get digits_lower d ≡ Some c) ⊎ (slice_get digits_upper d ≡ Some c))

-- characters are digits of a base, one by one
abbrev pub AreDigits : ℕ → List ℕ → List ℕ → Type 0
AreDigits base [] text = text ≡ []
AreDigits base (d ∷ ds) text = (c : ℕ) × (rest : List ℕ) × (text ≡ c ∷ rest) × IsDigit base c d × AreDigits base ds rest

-- a row of digits, each with at most one underscore before it
abbrev pub IsRow : ℕ → List ℕ → List ℕ → Type 0
IsRow base [] row = row ≡ []
IsRow base (d ∷ ds) row =
    (c : ℕ) × (rest : List ℕ) × ((row ≡ c ∷ rest) ⊎ (row ≡ byte "_" ∷ c ∷ rest)) × IsDigit base c d × IsRow base ds rest

-- the number that digits write, the highest first: each counts as often as its place says
abbrev pub place_value : ℕ → List ℕ → ℕ
place_value base [] = 0
place_value base (d ∷ ds) = d * base ^ length ds + place_value base ds

-- the next character, where there is one, is none of some
abbrev pub NextIsNot : (ℕ → Type 0) → List ℕ → Type 0
NextIsNot P [] = Unit {0}
NextIsNot P (c ∷ cs) = P c → ⊥
