-- What holds of what fits, of joins and of trees of classes.
use Rattle.std.specs.Prelude.{◌≡◌, true, ◌==◌, ◌||◌, ℕ, List, Some}
use Rattle.std.specs.List.{list_any}
use Rattle.py_typed.specs.Sorts.{Sort}
use Rattle.py_typed.specs.Classes.{ClassEntry, bases_of, bases_fall, is_class_under}
use Rattle.py_typed.specs.Fits.{same, fits, join}

-- each type fits itself, and what is of a type as it stands fits it
abbrev pub FitsItself : Type 0
FitsItself = (classes : List ClassEntry) (t : Sort) → fits classes t t ≡ true

abbrev pub SameFits : Type 0
SameFits = (classes : List ClassEntry) (s t : Sort) → same classes s t ≡ true → fits classes s t ≡ true

-- both types fit their join
abbrev pub JoinHoldsBoth : Type 0
JoinHoldsBoth = (classes : List ClassEntry) (s t u : Sort) → join classes s t ≡ Some u → (fits classes s u ≡ true) × (fits classes t u ≡ true)

-- a class whose bases have smaller numbers stands under another exactly where it is that one, or one of its bases stands under it
abbrev pub UnderByBases : Type 0
UnderByBases = (classes : List ClassEntry) (c d : ℕ) → bases_fall classes c ≡ true
    → is_class_under classes c d ≡ ((c == d) || list_any (λ b. is_class_under classes b d) (bases_of classes c))

-- a tree of classes: the number of a base is below its class's
pub record IsClassTree (classes : List ClassEntry) : Type 0 where
  pub falls : (c : ℕ) → bases_fall classes c ≡ true

-- then what is of a type as it stands is also of what that type is of, and what fits a type fits also what that type fits
abbrev pub SameGoesOn : Type 0
SameGoesOn = (classes : List ClassEntry) → IsClassTree classes → (s t u : Sort) → same classes s t ≡ true → same classes t u ≡ true → same classes s u ≡ true

abbrev pub FitsGoesOn : Type 0
FitsGoesOn = (classes : List ClassEntry) → IsClassTree classes → (s t u : Sort) → fits classes s t ≡ true → fits classes t u ≡ true → fits classes s u ≡ true

-- and a join does not hang on the order of its parts
abbrev pub JoinIsSymmetric : Type 0
JoinIsSymmetric = (classes : List ClassEntry) → IsClassTree classes → (s t : Sort) → join classes s t ≡ join classes t s
