-- The names of the attributes and of the methods that a class has, and the place of each.
--
-- A class has the names of its bases, base by base, each once, and behind them its own new ones. So it keeps the places of its first
-- base, the only one that may be no trait (mypyc's guide, "Native classes", inheritance and traits).
use Rattle.std.specs.Prelude.{◌≡◌, ℕ, zero, suc, ◌<◌, Bool, true, if◌then◌else◌, List, [], ◌++◌, map, drop, Option, None, Some, position, slice_get, flat_map}
use Rattle.std.specs.List.{list_all}
use Rattle.std.specs.Str.{bytes_eq}
use Rattle.indexmap.specs.IndexSet.{insert_all}
use Rattle.py_typed.specs.Classes.{ClassEntry, bases_of}
use Rattle.py_typed.specs.Order.{own_attributes}
use Rattle.py_typed.specs.WellTypedExpr.{is_trait_in}

-- the names of a row of names and values
abbrev pub names_in : {A : Type 0} → List (List ℕ × A) → List (List ℕ)
names_in row = map (λ p. p.0) row

-- names, each once, where it comes first
abbrev pub each_once : List (List ℕ) → List (List ℕ)
each_once names = insert_all bytes_eq [] names

-- the place of a name in a row
abbrev pub place_of : List ℕ → List (List ℕ) → Option ℕ
place_of name names = position (bytes_eq name) names

abbrev pub own_methods : Option ClassEntry → List (List ℕ × ℕ)
own_methods None = []
own_methods (Some entry) = entry.methods

module _ (classes : List ClassEntry) where
  -- the names that classes have where these are their own ones. A base has a smaller number than its class, so at most as many levels
  -- as that number stand above it
  abbrev pub names_by : (ℕ → List (List ℕ)) → ℕ → ℕ → List (List ℕ)
  names_by own zero c = each_once (own c)
  names_by own (suc levels) c = each_once (flat_map (names_by own levels) (bases_of classes c) ++ own c)

  abbrev pub own_attribute_names : ℕ → List (List ℕ)
  own_attribute_names c = names_in (own_attributes (slice_get classes c))

  abbrev pub own_method_names : ℕ → List (List ℕ)
  own_method_names c = names_in (own_methods (slice_get classes c))

  abbrev pub attribute_names : ℕ → List (List ℕ)
  attribute_names c = names_by own_attribute_names c c

  -- the methods of a class, or those that a class under a trait has for the trait
  abbrev pub method_names : ℕ → List (List ℕ)
  method_names c = names_by own_method_names c c

-- ---- what holds of places

-- the places of names are the numbers below a count, each once
pub record IsNumbered (place : List ℕ → Option ℕ) (count : ℕ) : Type 0 where
  pub below : (name : List ℕ) (i : ℕ) → place name ≡ Some i → i < count
  pub each : (i : ℕ) → i < count → (name : List ℕ) × (place name ≡ Some i)
  pub once : (name other : List ℕ) (i : ℕ) → place name ≡ Some i → place other ≡ Some i → name ≡ other

-- all bases of a trait are traits, and so are all but the first of every other class
abbrev pub bases_fit : List ClassEntry → Option ClassEntry → Bool
bases_fit classes None = true
bases_fit classes (Some entry) = list_all (λ b. is_trait_in (slice_get classes b)) (if entry.is_trait then entry.bases else drop 1 entry.bases)

pub record TraitsStand (classes : List ClassEntry) : Type 0 where
  pub fit : (c : ℕ) → bases_fit classes (slice_get classes c) ≡ true
