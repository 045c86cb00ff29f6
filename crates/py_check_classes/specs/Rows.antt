-- Rows of classes, by their numbers.
use Rattle.std.specs.Prelude.{ℕ, Bool, true, not, ◌&&◌, List, [], ◌∷◌, Option}
use Rattle.std.specs.List.{filter_map}
use Rattle.py_typed.specs.Classes.{has_class}

-- those of a row that are classes
abbrev pub those_there : List (Option ℕ) → List ℕ
those_there row = filter_map (λ o. o) row

-- no two are the same
abbrev pub differ : List ℕ → Bool
differ [] = true
differ (b ∷ more) = not (has_class b more) && differ more
