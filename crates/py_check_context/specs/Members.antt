-- What a class has under a name, along the order in which it and those above it are asked; and the method that a place stands in
-- (Python Language Reference, "Class definitions"; "The Python 2.3 Method Resolution Order").
use Rattle.std.specs.Prelude.{ℕ, zero, suc, Bool, List, Option, Some, None, slice_get}
use Rattle.std.specs.Option.{option_map, option_or, option_and_then}
use Rattle.std.specs.Str.{bytes_eq}
use Rattle.indexmap.specs.IndexMap.{get}
use Rattle.py_syntax.specs.declared.token.Span.{Span}
use Rattle.py_typed.specs.Sorts.{Sort, sort}
use Rattle.py_typed.specs.Order.{first_there}
use Rattle.py_check_context.specs.declared.members.Member as declared
use Rattle.py_check_context.specs.declared.members.Member.TheVariants as case
use Rattle.py_check_context.specs.declared.members.Above.{Above}
use Rattle.py_check_context.specs.declared.members.Above.TheVariants.{Nothing, Base, Row}
use Rattle.py_check_context.specs.declared.members.ClassMembers.{ClassMembers}
use Rattle.py_check_context.specs.declared.members.Asked.{Asked}
use Rattle.py_check_context.specs.declared.members.Asked.TheVariants.{Declared, Any}
use Rattle.py_check_context.specs.declared.members.Inside as declared_inside

-- a member of a class: an attribute of a type, one that is declared without a type, one that `__init__` sets and nothing declares,
-- with the target that sets it first, or a method, by the number of its function
pub data Member : Type 0 where
  attribute : Sort → Member
  untyped : Member
  unknown : Span → Member
  method : ℕ → Member

abbrev pub member : declared.Member → Member
member (case.Attribute t) = attribute (sort t)
member case.Untyped = untyped
member (case.Unknown place) = unknown place
member (case.Method f) = method f

-- ---- along an order

abbrev pub above_of : Option ClassMembers → Above
above_of None = Nothing
above_of (Some c) = c.above

-- where this is what a class has by itself
module _ {A : Type 0} (own : ClassMembers → Option A) (classes : List ClassMembers) where
  abbrev pub own_of : ℕ → Option A
  own_of c = option_and_then own (slice_get classes c)

  -- what those above a class have, where its one base has this: all of that, or what the first of a row has of its own
  abbrev pub behind : (ℕ → Option A) → Above → Option A
  behind base Nothing = None
  behind base (Base b) = base b
  behind base (Row row) = first_there own_of row

  -- what a class has of its own, or else what those above it have. At most so many levels are gone up
  abbrev pub along : ℕ → ℕ → Option A
  along zero c = own_of c
  along (suc levels) c = option_or (own_of c) (behind (along levels) (above_of (slice_get classes c)))

-- ---- what is asked of a class

abbrev pub own_member : List ℕ → ClassMembers → Option Member
own_member name c = option_map member (get bytes_eq c.own name)

-- an attribute that nothing declares is no definition of its name
abbrev pub declared_of : Member → Option Member
declared_of (unknown place) = None
declared_of m = Some m

abbrev pub own_asked : Asked → List ℕ → ClassMembers → Option Member
own_asked Declared name c = option_and_then declared_of (own_member name c)
own_asked Any name c = own_member name c

abbrev pub own_init : ClassMembers → Option ℕ
own_init c = c.init

-- the number of a base is below that of its class, so no more levels stand above it
abbrev pub first_in : List ClassMembers → ℕ → Asked → List ℕ → Option Member
first_in classes c asked name = along (own_asked asked name) classes c c

-- THE MEMBER of a class: the first that is declared, and where none is the first attribute that nothing declares
abbrev pub member_in : List ClassMembers → ℕ → List ℕ → Option Member
member_in classes c name = option_or (first_in classes c Declared name) (first_in classes c Any name)

-- THE `__init__` of a class: the function of the first method of that name
abbrev pub init_in : List ClassMembers → ℕ → Option ℕ
init_in classes c = along own_init classes c c

-- the next `__init__` behind a class
abbrev pub init_behind : List ClassMembers → ℕ → Option ℕ
init_behind classes c = behind own_init classes (init_in classes) (above_of (slice_get classes c))

-- ---- methods

-- a method, by its class, where that has a type; its first parameter, where it has one; and whether it is the `__init__` of a class
-- that is no trait, with the place of each statement in it that declares an attribute by an annotation, and the function of the next
-- `__init__` behind its class along the order of that, if there is one
pub record Inside : Type 0 where
  pub class : Option ℕ
  pub first : Option (List ℕ)
  pub is_init : Bool
  pub declaring : List ℕ → Option Span
  pub next_init : Option ℕ

abbrev pub inside : declared_inside.Inside → Inside
inside i = record {
  class = i.class;
  first = option_map (λ x. x.now) i.first;
  is_init = i.is_init;
  declaring = get bytes_eq i.declaring.now;
  next_init = i.next_init;
}
