-- When the definitions of a member differ: along the order of a class all attributes of one name have one type, and all methods of one
-- name have one signature (PEP 484 leaves overriding to the checker; mypyc's guide, "Native classes", asks for one signature).
use Rattle.std.specs.Prelude.{◌≡◌, ℕ, Bool, true, false, not, ◌&&◌, ◌||◌, List, ◌++◌, map, find, Option, Some, None, slice_get, flat_map, codes}
use Rattle.std.specs.List.{list_any, list_all}
use Rattle.std.specs.Option.{option_map}
use Rattle.std.specs.Map.{lookup}
use Rattle.std.specs.Str.{bytes_eq}
use Rattle.py_typed.specs.Sorts.{Sort}
use Rattle.py_typed.specs.Classes.{ClassTable, Signature}
use Rattle.py_typed.specs.Fits.{is_same_type}
use Rattle.py_typed.specs.Order.{own_attributes, order, listed_order}
use Rattle.py_typed.specs.WellTypedModule.{same_row}
use Rattle.class_layout_members.specs.Names.{own_methods}

-- what a class says of a name of its own: the type of an attribute, or the signature of a method
pub data Definition : Type 0 where
  OfType : (t : Sort) → Definition
  OfSignature : (s : Option Signature) → Definition

abbrev pub is_same_signature : Option Signature → Option Signature → Bool
is_same_signature (Some s) (Some t) = same_row s.params t.params && is_same_type s.ret t.ret
is_same_signature None None = true
is_same_signature s t = false

-- each class may have an `__init__` of its own signature
abbrev pub is_init : List ℕ → Bool
is_init name = bytes_eq name (codes "__init__")

-- two definitions of one name agree: attributes of one type, or methods of one signature
abbrev pub agree : List ℕ → Definition → Definition → Bool
agree name (OfType s) (OfType t) = is_same_type s t
agree name (OfSignature s) (OfSignature t) = is_init name || is_same_signature s t
agree name d e = false

-- ---- members in a row, each a name with a definition

-- another definition than the first one of the name
abbrev pub is_other : List ℕ → Option Definition → Definition → Bool
is_other name None d = false
is_other name (Some first) d = not (agree name first d)

abbrev pub differs : List (List ℕ × Definition) → List ℕ × Definition → Bool
differs members p = is_other p.0 (lookup (bytes_eq p.0) members) p.1

-- no definition of a row is another one than the first, where these are the first ones
abbrev pub none_other : (List ℕ → Option Definition) → List (List ℕ × Definition) → Bool
none_other firsts members = list_all (λ p. not (is_other p.0 (firsts p.0) p.1)) members

-- some definition of the name does not agree with the first one
abbrev pub clashes : List (List ℕ × Definition) → List ℕ → Bool
clashes members name = list_any (λ p. bytes_eq name p.0 && differs members p) members

-- the first name with such a definition
abbrev pub clash_among : List (List ℕ × Definition) → Option (List ℕ)
clash_among members = option_map (λ p. p.0) (find (λ p. clashes members p.0) members)

module _ (t : ClassTable) where
  -- ---- classes

  -- a class's own members: its attributes, and then its methods
  abbrev pub own_members : ℕ → List (List ℕ × Definition)
  own_members c =
      map (λ p. (p.0, OfType p.1)) (own_attributes (slice_get t.classes c)) ++ map (λ p. (p.0, OfSignature (slice_get t.signatures p.1))) (own_methods (slice_get t.classes c))

  -- those of classes in a row
  abbrev pub members_along : List ℕ → List (List ℕ × Definition)
  members_along row = flat_map own_members row

  -- THE CLASH of a class: its first member, along its order, of which not all definitions agree with the first
  abbrev pub clash_of : ℕ → Option (List ℕ)
  clash_of c = clash_among (members_along (listed_order (order t.classes c)))

  -- these are the first definitions along an order, and all others along it agree with them
  pub record AllAgreeAlong (row : List ℕ) (firsts : List ℕ → Option Definition) : Type 0 where
    pub each : (name : List ℕ) → firsts name ≡ lookup (bytes_eq name) (members_along row)
    pub none : clash_among (members_along row) ≡ None
