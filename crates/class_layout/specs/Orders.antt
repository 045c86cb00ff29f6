-- Which classes have an order, and how it comes from the orders of their bases.
use Rattle.std.specs.Prelude.{◌≡◌, ℕ, ◌<◌, true, List, [], ◌∷◌, ◌++◌, map, length, Option, None, is_some, slice_get, Result, Ok, Err}
use Rattle.py_typed.specs.Classes.{ClassEntry}
use Rattle.py_typed.specs.Order.{merge, order, listed_order}
use Rattle.class_layout.specs.declared.layout_error.LayoutError.{LayoutError}
use Rattle.class_layout.specs.declared.layout_error.LayoutError.TheVariants.{NoOrder, Clash, Memory}
use Rattle.class_layout.specs.Merging.{behind}

-- the rows that are merged for a class with these bases: their orders, and the row of them
abbrev pub rows_above : List (List ℕ) → List ℕ → List (List ℕ)
rows_above orders bases = map (λ b. listed_order (slice_get orders b)) bases ++ bases ∷ []

abbrev pub order_from : List (List ℕ) → ℕ → List ℕ → Option (List ℕ)
order_from orders c bases = behind (c ∷ []) (merge (rows_above orders bases))

-- the first class that has no order
pub record IsFirstWithout (classes : List ClassEntry) (c : ℕ) : Type 0 where
  pub there : c < length classes
  pub none : order classes c ≡ None
  pub before : (b : ℕ) → b < c → is_some (order classes b) ≡ true

-- each class has an order
abbrev pub AllHaveOrders : List ClassEntry → Type 0
AllHaveOrders classes = (c : ℕ) → c < length classes → is_some (order classes c) ≡ true

-- the orders of all classes, by their numbers
pub record AreOrders (classes : List ClassEntry) (orders : List (List ℕ)) : Type 0 where
  pub long : length orders ≡ length classes
  pub each : (c : ℕ) → c < length classes → slice_get orders c ≡ order classes c

-- the orders of all classes, or the first class that has none
abbrev pub IsOrdered : List ClassEntry → Result (List (List ℕ)) LayoutError → Type 0
IsOrdered classes (Ok orders) = AreOrders classes orders
IsOrdered classes (Err (NoOrder c)) = IsFirstWithout classes c
IsOrdered classes (Err (Clash c name)) = ⊥
IsOrdered classes (Err Memory) = Unit {0}
