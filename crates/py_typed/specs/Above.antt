-- A table of what stands above each class.
use Rattle.std.specs.Prelude.{◌≡◌, ℕ, Bool, false, ◌==◌, ◌||◌, ◌&&◌, nat_lt, List, [], ◌∷◌, length, Option, Some, None, slice_get}
use Rattle.std.specs.List.{list_any}
use Rattle.py_typed.specs.Classes.{ClassEntry, is_above}

abbrev pub flag_in : Option Bool → Bool
flag_in None = false
flag_in (Some told) = told

abbrev pub row_in : Option (List Bool) → List Bool
row_in None = []
row_in (Some row) = row

-- what a table of rows tells of two numbers: nothing is told where there is no such row or no such place in it
abbrev pub told : List (List Bool) → ℕ → ℕ → Bool
told rows c d = flag_in (slice_get (row_in (slice_get rows c)) d)

-- one of some bases of the class c is d, or the table tells that d stands above it
abbrev pub told_by_bases : List (List Bool) → List ℕ → ℕ → ℕ → Bool
told_by_bases rows bases c d = list_any (λ b. nat_lt b c && ((b == d) || told rows b d)) bases

-- there is a row for each class, and it tells what stands above the class
pub record IsTable (classes : List ClassEntry) (rows : List (List Bool)) : Type 0 where
  pub rows_there : length rows ≡ length classes
  pub tells : (c d : ℕ) → told rows c d ≡ is_above classes c d

-- how long the row of a class with these bases is
abbrev pub row_length : List ℕ → ℕ → ℕ
row_length [] c = 0
row_length (b ∷ bases) c = c
