-- Numbers that rise, and rows of them.
use Rattle.std.specs.Prelude.{◌≡◌, ◌≤◌, ◌<◌, ℕ, suc, Bool, not, ◌&&◌, cond, nat_lt, List, [], ◌∷◌, ◌++◌, length, Option, Some, None, get_or, slice_set}
use Rattle.liveness.specs.Paths.{is_among}

abbrev pub IsRising : List ℕ → Type 0
IsRising xs = (i j : ℕ) → i < j → j < length xs → get_or xs i 0 < get_or xs j 0

-- none of them is larger than a number
abbrev pub IsAtMost : ℕ → List ℕ → Type 0
IsAtMost n xs = (i : ℕ) → i < length xs → get_or xs i 0 ≤ n

-- the first of some numbers that is not below a bound
abbrev pub next_from : List ℕ → ℕ → Option ℕ
next_from [] bound = None
next_from (x ∷ xs) bound = cond (nat_lt x bound) (next_from xs bound) (Some x)

abbrev pub later : ℕ → Option ℕ → Option ℕ
later n None = Some n
later n (Some m) = Some m

-- the last of them that is below a bound
abbrev pub last_below : List ℕ → ℕ → Option ℕ
last_below [] bound = None
last_below (x ∷ xs) bound = cond (nat_lt x bound) (later x (last_below xs bound)) (last_below xs bound)

-- a number put at the end, unless it is there
abbrev pub with_number : List ℕ → ℕ → List ℕ
with_number xs n = cond (is_among xs n) xs (xs ++ n ∷ [])

-- ---- rows

-- whether a number stands in the row of another
abbrev pub has : List (List ℕ) → ℕ → ℕ → Bool
has rows n t = is_among (get_or rows t []) n

-- a number put at the end of a row, unless it is there
abbrev pub with_mark : List (List ℕ) → ℕ → ℕ → List (List ℕ)
with_mark rows n t = slice_set rows t (with_number (get_or rows t []) n)

-- whether a row is there and lacks a number
abbrev pub lacks : List (List ℕ) → ℕ → ℕ → Bool
lacks rows n t = nat_lt t (length rows) && not (has rows n t)

-- no row has a number larger than one
abbrev pub AreAtMost : ℕ → List (List ℕ) → Type 0
AreAtMost n rows = (t : ℕ) → IsAtMost n (get_or rows t [])

-- the numbers of the rows, counted from n, in which a number stands
abbrev pub rows_with : ℕ → List (List ℕ) → ℕ → List ℕ
rows_with n [] k = []
rows_with n (row ∷ rows) k = cond (is_among row k) (n ∷ rows_with (suc n) rows k) (rows_with (suc n) rows k)

-- of each number the rows in which it stands
abbrev pub IsInverse : List (List ℕ) → List (List ℕ) → Type 0
IsInverse rows inverse = (k : ℕ) → k < length inverse → get_or inverse k [] ≡ rows_with 0 rows k
