-- What is left of rows of classes while they are merged, and how often a class stands behind their heads.
use Rattle.std.specs.Prelude.{ℕ, suc, true, false, slice_get, Some, None, ◌+◌, Bool, ◌==◌, if◌then◌else◌, nat_lt, List, [], ◌∷◌, ◌++◌, length, map, drop, Option}
use Rattle.std.specs.List.{list_all}
use Rattle.std.specs.Option.{option_map}
use Rattle.std.specs.Borrow.{Bor}

-- the rows of the program
abbrev pub rows_of : List (Bor (List ℕ)) → List (List ℕ)
rows_of rows = map (λ (row : Bor (List ℕ)). row.now) rows

-- how many entries rows have
abbrev pub entries : List (List ℕ) → ℕ
entries [] = 0
entries (row ∷ rows) = length row + entries rows

-- how often a class stands in a row, and behind the heads of all rows
abbrev pub times : ℕ → List ℕ → ℕ
times c [] = 0
times c (d ∷ row) = if d == c then suc (times c row) else times c row

abbrev pub times_behind : ℕ → List (List ℕ) → ℕ
times_behind c [] = 0
times_behind c (row ∷ rows) = times c (drop 1 row) + times_behind c rows

-- the numbers of all classes of a row, and of rows, are below another one
abbrev pub is_below : ℕ → List ℕ → Bool
is_below count row = list_all (λ c. nat_lt c count) row

abbrev pub are_below : ℕ → List (List ℕ) → Bool
are_below count rows = list_all (is_below count) rows

-- a merge behind what was merged before
abbrev pub behind : List ℕ → Option (List ℕ) → Option (List ℕ)
behind merged rest = option_map (λ more. merged ++ more) rest

abbrev pub has_first : List ℕ → Bool
has_first [] = false
has_first (c ∷ cs) = true

-- what comes to the head of a row where a class is taken from it
abbrev pub next : List ℕ → ℕ → Option ℕ
next [] c = None
next (d ∷ row) c = if d == c then slice_get row 0 else None

-- how often a class is the one that is there
abbrev pub once : ℕ → Option ℕ → ℕ
once c None = 0
once c (Some x) = times c (x ∷ [])
