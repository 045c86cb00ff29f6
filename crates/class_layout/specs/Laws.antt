-- What holds of the places of attributes and methods in any tree of classes.
use Rattle.std.specs.Prelude.{◌≡◌, ℕ, Bool, true, false, List, map, length, Option, Some, is_some, slice_get}
use Rattle.std.specs.List.{list_all}
use Rattle.py_typed.specs.Classes.{ClassEntry, ClassTable, is_class_under}
use Rattle.py_typed.specs.WellTypedExpr.{is_trait_in}
use Rattle.py_typed.specs.Laws.{IsClassTree}
use Rattle.py_typed.specs.Statements.{TypedModule}
use Rattle.py_typed.specs.WellTypedModule.{is_well_typed}
use Rattle.py_typed.specs.Order.{order, place_in, attributes, attribute_of, method_of}
use Rattle.class_layout_members.specs.Names.{place_of, method_names, IsNumbered, TraitsStand}
use Rattle.class_layout.specs.Orders.{AllHaveOrders}
use Rattle.class_layout.specs.Layouts.{AllAgree}

-- a class under one that is no trait has each attribute and each method of it at the same place
abbrev pub PlacesStay : Type 0
PlacesStay = (classes : List ClassEntry) → IsClassTree classes → TraitsStand classes → (d c : ℕ) (name : List ℕ) (i : ℕ) → is_class_under classes d c ≡ true → is_trait_in (slice_get classes c) ≡ false
    → (place_in name (attributes classes c) ≡ Some i → place_in name (attributes classes d) ≡ Some i) × (place_of name (method_names classes c) ≡ Some i → place_of name (method_names classes d) ≡ Some i)

-- the places of the attributes of a class are the numbers below how many there are, each once, and so are those of the methods of a class
-- or of a trait
abbrev pub PlacesAreNumbered : Type 0
PlacesAreNumbered = (classes : List ClassEntry) → IsClassTree classes → (c : ℕ)
    → IsNumbered (λ name. place_in name (attributes classes c)) (length (attributes classes c)) × IsNumbered (λ name. place_of name (method_names classes c)) (length (method_names classes c))

-- a class has a place for exactly the attributes and methods that a class along its order has
abbrev pub NamesHavePlaces : Type 0
NamesHavePlaces = (classes : List ClassEntry) → IsClassTree classes → (c : ℕ) → is_some (order classes c) ≡ true → (name : List ℕ)
    → (is_some (place_in name (attributes classes c)) ≡ is_some (attribute_of classes c name)) × (is_some (place_of name (method_names classes c)) ≡ is_some (method_of classes c name))

-- the list of the functions that a class has for the methods of itself, or of a trait above it
abbrev pub list_for : List ClassEntry → ℕ → ℕ → List (Option ℕ)
list_for classes d t = map (method_of classes d) (method_names classes t)

-- where a class stands under another, or under a trait, each method of that one is a method of the class, and the list for it has the
-- class's function at the method's place
abbrev pub ListsHoldMembers : Type 0
ListsHoldMembers = (classes : List ClassEntry) → IsClassTree classes → (d t : ℕ) (name : List ℕ) (i : ℕ) → is_class_under classes d t ≡ true → is_some (order classes d) ≡ true
    → place_of name (method_names classes t) ≡ Some i → (slice_get (list_for classes d t) i ≡ Some (method_of classes d name)) × (is_some (method_of classes d name) ≡ true)

-- so the list that a class has for itself, or for a trait above it, is whole
abbrev pub ListsAreWhole : Type 0
ListsAreWhole = (classes : List ClassEntry) → IsClassTree classes → (d t : ℕ) → is_class_under classes d t ≡ true → is_some (order classes d) ≡ true → list_all (λ name. is_some (method_of classes d name)) (method_names classes t) ≡ true

-- classes that have a layout: bases come before them, traits stand behind the first base, each has an order, and all definitions of a
-- member agree
pub record HaveLayout (table : ClassTable) : Type 0 where
  pub tree : IsClassTree table.classes
  pub stand : TraitsStand table.classes
  pub orders : AllHaveOrders table.classes
  pub agree : AllAgree table

-- those of a well-typed module are such
abbrev pub WellTypedClassesFit : Type 0
WellTypedClassesFit = (is_identifier : List ℕ → Bool) (m : TypedModule) → is_well_typed is_identifier m ≡ true → HaveLayout m.classes
