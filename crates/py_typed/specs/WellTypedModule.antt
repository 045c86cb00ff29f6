-- Which typed modules are well typed: every number names something, names differ, and each function and class has the parts and the
-- types that its rule asks for.
use Rattle.std.specs.Prelude.{ℕ, suc, Bool, true, false, not, ◌==◌, ◌&&◌, ◌||◌, if◌then◌else◌, nat_lt, List, [], ◌∷◌, ◌++◌, length, map, take, drop, Option, Some, None, slice_get, codes}
use Rattle.std.specs.List.{list_any, list_all, flat_map}
use Rattle.std.specs.Str.{bytes_eq}
use Rattle.py_typed.specs.Sorts.{Sort, Instance, sorts_of}
use Rattle.py_typed.specs.Classes.{ClassEntry, Signature}
use Rattle.py_typed.specs.Fits.{is_same_type, are_same_types, is_nothing}
use Rattle.py_typed.specs.Order.{order, listed_order, own_method, own_attribute}
use Rattle.py_typed.specs.Statements.{Variable, TypedFunc, TypedModule}
use Rattle.py_typed.specs.Narrowing.{is_closed}
use Rattle.py_typed.specs.WellTypedExpr.{is_value_type, is_result_type, init_class, is_same_place, is_trait_in}
use Rattle.py_typed.specs.WellTyped.{all_differ, has_statement, suite_typed}

abbrev pub names_of : {A : Type 0} → List (List ℕ × A) → List (List ℕ)
names_of row = map (λ p. p.0) row

abbrev pub types_in : List Variable → List Sort
types_in variables = map (λ p. p.1) variables

abbrev pub same_row : List Sort → List Sort → Bool
same_row ss ts = are_same_types (sorts_of ss) (sorts_of ts)

-- for each of a list, with its place
abbrev pub all_at : {A : Type 0} → ℕ → (ℕ → A → Bool) → List A → Bool
all_at i test [] = true
all_at i test (a ∷ more) = test i a && all_at (suc i) test more

-- ---- functions

-- a function without a result gives None; every other one ends with a return, a raise or no end
abbrev pub ends_well : TypedFunc → Bool
ends_well f = is_nothing f.ret || is_closed f.body

-- of a method the first parameter has the class as its type, and is no part of the signature
abbrev pub parameter_types : TypedFunc → List Sort
parameter_types f = of_class f.class (types_in (take f.params f.locals))
  where
    of_class : Option ℕ → List Sort → List Sort
    of_class None ts = ts
    of_class (Some c) ts = drop 1 ts

abbrev pub has_self : Option ℕ → List Sort → Bool
has_self None ts = true
has_self (Some c) [] = false
has_self (Some c) (t ∷ ts) = is_same_type t (Instance c)

abbrev pub signature_fits : Option Signature → TypedFunc → Bool
signature_fits None f = false
signature_fits (Some s) f = same_row (parameter_types f) s.params && is_same_type f.ret s.ret

-- a class's `__init__` gives nothing
abbrev pub init_gives_nothing : TypedFunc → Bool
init_gives_nothing f = gives_nothing (init_class f)
  where
    gives_nothing : Option ℕ → Bool
    gives_nothing None = true
    gives_nothing (Some c) = is_nothing f.ret

abbrev pub is_init_of_trait : List ClassEntry → Option ℕ → Bool
is_init_of_trait classes None = false
is_init_of_trait classes (Some c) = is_trait_in (slice_get classes c)

module _ (is_identifier : List ℕ → Bool) (m : TypedModule) where
  abbrev pub classes : List ClassEntry
  classes = m.classes.classes

  abbrev pub variables_typed : List Variable → Bool
  variables_typed variables =
      list_all is_identifier (names_of variables) && all_differ (names_of variables) && list_all (is_value_type (length classes)) (types_in variables)

  abbrev pub class_there : Option ℕ → Bool
  class_there None = true
  class_there (Some c) = nat_lt c (length classes)

  -- the function of a number
  abbrev pub func_typed : ℕ → TypedFunc → Bool
  func_typed i f =
      is_identifier f.name && class_there f.class && nat_lt f.params (suc (length f.locals)) && nat_lt (length f.locals) 101
      && variables_typed f.locals && is_result_type (length classes) f.ret && has_self f.class (types_in (take f.params f.locals))
      && signature_fits (slice_get m.classes.signatures i) f && init_gives_nothing f && not (is_init_of_trait classes (init_class f)) && has_statement f.body && ends_well f
      && suite_typed m f.locals (init_class f) (Some f.ret) [] false false f.body

  -- the names of the functions that are no methods
  abbrev pub own_name : TypedFunc → List (List ℕ)
  own_name f = where_none f.class
    where
      where_none : Option ℕ → List (List ℕ)
      where_none None = f.name ∷ []
      where_none (Some c) = []

  -- ---- classes

  -- the number of a method is that of a function of this class and name
  abbrev pub method_typed : ℕ → List ℕ × ℕ → Bool
  method_typed c p = is_its (slice_get m.funcs p.1)
    where
      is_its : Option TypedFunc → Bool
      is_its None = false
      is_its (Some f) = bytes_eq f.name p.0 && is_same_place f.class (Some c)

  -- each function of a class is among its methods
  abbrev pub is_listed : ℕ → TypedFunc → Bool
  is_listed i f = in_class f.class
    where
      in_class : Option ℕ → Bool
      in_class None = true
      in_class (Some c) = is_own (slice_get classes c)
        where
          is_own : Option ClassEntry → Bool
          is_own None = false
          is_own (Some entry) = list_any (λ p. (p.1 == i) && bytes_eq p.0 f.name) entry.methods

  -- a base that is no trait comes first and is the only one; the bases of a trait are traits, and it has neither
  -- attributes nor `__init__`
  abbrev pub bases_typed : ClassEntry → Bool
  bases_typed entry =
      list_all (λ b. is_trait_in (slice_get classes b)) (if entry.is_trait then entry.bases else drop 1 entry.bases)
      && (not entry.is_trait || (is_empty entry.attributes && not (list_any (λ p. bytes_eq p.0 (codes "__init__")) entry.methods)))
    where
      is_empty : {A : Type 0} → List A → Bool
      is_empty [] = true
      is_empty (a ∷ more) = false

  abbrev pub differing : List ℕ → Bool
  differing [] = true
  differing (b ∷ more) = not (list_any (λ c. c == b) more) && differing more

  abbrev pub has_order : Option (List ℕ) → Bool
  has_order None = false
  has_order (Some row) = true

  -- of one name along an order: all methods of one signature, or all attributes of one type
  abbrev pub same_signature : Option Signature → Option Signature → Bool
  same_signature (Some s) (Some t) = same_row s.params t.params && is_same_type s.ret t.ret
  same_signature s t = false

  abbrev pub agrees_with_method : Option ℕ → Option ℕ → Option Sort → Bool
  agrees_with_method first None None = true
  agrees_with_method (Some f) (Some g) None = same_signature (slice_get m.classes.signatures f) (slice_get m.classes.signatures g)
  agrees_with_method first other t = false

  abbrev pub agrees_with_attribute : Sort → Option ℕ → Option Sort → Bool
  agrees_with_attribute t None None = true
  agrees_with_attribute t None (Some s) = is_same_type t s
  agrees_with_attribute t f s = false

  abbrev pub methods_agree : List ℕ → List ℕ × ℕ → Bool
  methods_agree row p =
      bytes_eq p.0 (codes "__init__") || list_all (λ d. agrees_with_method (Some p.1) (own_method classes p.0 d) (own_attribute classes p.0 d)) row

  abbrev pub attributes_agree : List ℕ → List ℕ × Sort → Bool
  attributes_agree row p = list_all (λ d. agrees_with_attribute p.1 (own_method classes p.0 d) (own_attribute classes p.0 d)) row

  abbrev pub members_agree : List ℕ → ℕ → Bool
  members_agree row d = of_class (slice_get classes d)
    where
      of_class : Option ClassEntry → Bool
      of_class None = false
      of_class (Some entry) = list_all (methods_agree row) entry.methods && list_all (attributes_agree row) entry.attributes

  abbrev pub class_typed : ℕ → ClassEntry → Bool
  class_typed c entry =
      is_identifier entry.name && list_all (λ b. nat_lt b c) entry.bases && differing entry.bases && bases_typed entry
      && list_all is_identifier (names_of entry.attributes ++ names_of entry.methods) && all_differ (names_of entry.attributes ++ names_of entry.methods)
      && list_all (is_value_type (length classes)) (map (λ p. p.1) entry.attributes) && list_all (method_typed c) entry.methods
      && has_order (order classes c) && list_all (members_agree (listed_order (order classes c))) (listed_order (order classes c))

  -- ---- modules

  abbrev pub is_well_typed : Bool
  is_well_typed =
      variables_typed m.globals && all_differ (names_of m.globals ++ (flat_map own_name m.funcs ++ map (λ entry. entry.name) classes))
      && (length m.classes.signatures == length m.funcs) && all_at 0 class_typed classes && all_at 0 is_listed m.funcs && all_at 0 func_typed m.funcs
      && suite_typed m [] None None [] false false m.top
