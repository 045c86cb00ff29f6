-- What a value has under a name, and calls of the methods of lists (Python Language Reference, "Attribute references"; Python Library
-- Reference, "Mutable Sequence Types").
--
-- An instance has what its class has: attributes, which are read, and methods, which are only called. A list has `append` and
-- `pop`. A value that may be None has nothing that None has not. Of an attribute without a type nothing is said.
use Rattle.std.specs.Prelude.{ℕ, List, [], ◌∷◌, codes, Option, Some, None, Result, Ok, Err, if◌then◌else◌, slice_get}
use Rattle.std.specs.Str.{bytes_eq}
use Rattle.py_syntax.specs.declared.token.Span.{Span}
use Rattle.py_typed.specs.Sorts.{Sort}
use Rattle.py_typed.specs.Sorts as sort
use Rattle.py_typed.specs.Classes.{ClassEntry, Signature}
use Rattle.py_typed.specs.Fits.{fits}
use Rattle.py_typed.specs.TypeTexts.{type_text}
use Rattle.py_typed.specs.Expressions as node
use Rattle.py_typed.specs.Expressions.{TypedExpr, typed, type_of}
use Rattle.py_check_context.specs.Members as member
use Rattle.py_check_context.specs.Members.{Member}
use Rattle.py_check_context.specs.Context.{Context, some_signature, Wanted, WantedRow, along}
use Rattle.py_check_messages.specs.Seen.{Seen, Message, is, silent, fails}
use Rattle.py_check_messages.specs.Messages.{not_a_value, wrong_number, wrong_argument, no_attribute, none_has_no_attribute}
use Rattle.py_check_coercions.specs.Several.{with_part}
use Rattle.py_check_coercions.specs.Values.{coerced}
use Rattle.py_check_calls.specs.Builtins.{as_value, the_only}

-- ---- the look-up

pub data Had : Type 0 where
  -- an attribute of this type
  has_attribute : Sort → Had
  -- a method, by the number of its function
  has_method : ℕ → Had
  -- of a list with items of this type
  has_append : Sort → Had
  has_pop : Sort → Had
  -- an attribute without a type
  has_untyped : Had
  -- the value may be None, and where it is not it has this
  none_has_not : Had
  has_not : Had

-- of an instance, by what its class has
abbrev pub instance_has : Option Member → Had
instance_has None = has_not
instance_has (Some (member.attribute t)) = has_attribute t
instance_has (Some member.untyped) = has_untyped
instance_has (Some (member.unknown place)) = has_untyped
instance_has (Some (member.method f)) = has_method f

-- of what is an instance or None
abbrev pub optional_has : Option Member → Had
optional_has None = has_not
optional_has (Some (member.attribute t)) = none_has_not
optional_has (Some member.untyped) = none_has_not
optional_has (Some (member.unknown place)) = has_untyped
optional_has (Some (member.method f)) = none_has_not

abbrev pub list_has : Sort → List ℕ → Had
list_has t a = if bytes_eq a (codes "append") then has_append t else (if bytes_eq a (codes "pop") then has_pop t else has_not)

module _ (member_of : ℕ → List ℕ → Option Member) where
  -- of what has this type or is None
  abbrev pub some_has : Sort → List ℕ → Had
  some_has (sort.Instance n) a = optional_has (member_of n a)
  some_has s a = has_not

  -- THE LOOK-UP: what a value of a type has under a name, whether it is read or called
  abbrev pub look_up : Sort → List ℕ → Had
  look_up (sort.Instance n) a = instance_has (member_of n a)
  look_up (sort.Optional s) a = some_has s a
  look_up (sort.ListOf t) a = list_has t a
  look_up s a = has_not

-- ---- `e.a` that is not called

abbrev pub read : List ClassEntry → Span → TypedExpr → List ℕ → Had → Seen TypedExpr
read classes span e a (has_attribute t) = is (typed (node.Attr e a) t span)
read classes span e a (has_method f) = fails span (not_a_value a)
read classes span e a (has_append t) = fails span (not_a_value a)
read classes span e a (has_pop t) = fails span (not_a_value a)
read classes span e a has_untyped = silent
read classes span e a none_has_not = fails span (none_has_no_attribute classes (type_of e) a)
read classes span e a has_not = fails span (no_attribute classes (type_of e) a)

abbrev pub attribute : Context → Span → List ℕ → Option TypedExpr → Seen TypedExpr
attribute c span a part = with_part part (λ e. read c.classes span e a (look_up c.member (type_of e) a))

-- ---- what the arguments of a method are there for

abbrev pub params_of : Option Signature → List Sort
params_of None = []
params_of (Some s) = s.params

abbrev pub had_row : Context → Had → WantedRow
had_row c (has_method f) = along (params_of (some_signature (slice_get c.signatures f)))
had_row c (has_append t) = along (t ∷ [])
had_row c (has_attribute t) = along []
had_row c (has_pop t) = along []
had_row c has_untyped = along []
had_row c none_has_not = along []
had_row c has_not = along []

-- `__init__` is not called by its name
abbrev pub method_row : Context → List ℕ → Sort → WantedRow
method_row c m t = if bytes_eq m (codes "__init__") then along [] else had_row c (look_up c.member t m)

-- ---- methods of lists: `append` takes a value that fits the item type and gives none, `pop` takes nothing and gives an item

abbrev pub pop_call : Span → TypedExpr → Sort → List TypedExpr → Result TypedExpr Message
pop_call span e t [] = Ok (typed (node.Pop e) t span)
pop_call span e t (x ∷ es) = Err (wrong_number (codes "pop") (codes "0"))

module _ (classes : List ClassEntry) where
  abbrev pub append_given : Wanted → Span → TypedExpr → Sort → Option TypedExpr → Result TypedExpr Message
  append_given w span e t None = Err (wrong_number (codes "append") (codes "1"))
  append_given w span e t (Some x) =
      if fits classes (type_of x) t then as_value w (codes "append") (typed (node.Append e (coerced t x)) sort.Nothing span)
      else Err (wrong_argument classes 1 (codes "append") (type_of x) (type_text classes t))

  abbrev pub append_call : Wanted → Span → TypedExpr → Sort → List TypedExpr → Result TypedExpr Message
  append_call w span e t es = append_given w span e t (the_only es)
