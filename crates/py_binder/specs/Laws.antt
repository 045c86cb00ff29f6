-- What holds of the names of every scope.
use Rattle.std.specs.Prelude.{◌≡◌, ℕ, not, List, ◌++◌, filter}
use Rattle.py_binder.specs.Scope.{contains, first_sights}

-- the names that are seen first come first, and of the others those that are new
abbrev pub FirstComeFirst : Type 0
FirstComeFirst =
    (names more : List (List ℕ)) → first_sights (names ++ more) ≡ first_sights names ++ filter (λ name. not (contains names name)) (first_sights more)

-- a name is there where it is seen
abbrev pub NoneIsLost : Type 0
NoneIsLost = (names : List (List ℕ)) (name : List ℕ) → contains (first_sights names) name ≡ contains names name
