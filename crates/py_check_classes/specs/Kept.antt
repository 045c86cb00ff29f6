-- What is kept of the orders of classes while their headers are found: enough to tell each order at once.
use Rattle.std.specs.Prelude.{◌≡◌, ℕ, ◌<◌, true, if◌then◌else◌, nat_lt, List, [], ◌∷◌, map, length, Option, Some, None, is_some, slice_get}
use Rattle.py_typed.specs.Classes.{ClassEntry, bases_of, bases_fall}
use Rattle.py_typed.specs.Order.{order, listed_order}

-- of a class with several bases its order; of any other one nothing, since its order is the class before that of its one base
abbrev pub kept_order : List ClassEntry → ℕ → List ℕ
kept_order classes c = if nat_lt 1 (length (bases_of classes c)) then listed_order (order classes c) else []

-- these are kept of classes that all have orders, and whose bases have smaller numbers
pub record AreKept (classes : List ClassEntry) (orders : List (List ℕ)) : Type 0 where
  pub long : length orders ≡ length classes
  pub falls : (c : ℕ) → bases_fall classes c ≡ true
  pub ordered : (c : ℕ) → c < length classes → is_some (order classes c) ≡ true
  pub kept : (c : ℕ) → c < length classes → slice_get orders c ≡ Some (kept_order classes c)

-- the one base, where there is one alone
abbrev pub only_one : List ℕ → Option ℕ
only_one (b ∷ []) = Some b
only_one _ = None

-- what is kept of a class, or the class alone where nothing is
abbrev pub or_alone : ℕ → List ℕ → List ℕ
or_alone c [] = c ∷ []
or_alone c (d ∷ row) = d ∷ row

abbrev pub kept_in : Option (List ℕ) → List ℕ
kept_in None = []
kept_in (Some row) = row

-- the orders of some classes, and behind them the row of these
abbrev pub rows_above : List ClassEntry → List ℕ → List (List ℕ)
rows_above classes bases = map (λ b. listed_order (order classes b)) bases
