-- Values that are bound and returned, and some that are not.
use Rattle.std.proofs.Common.{◌≡◌, ℕ, List, [], ◌∷◌, Some, None, Ok, Err, refl, codes}
use Rattle.std.specs.Prelude.{pos}
use Rattle.py_syntax.specs.declared.token.Span.{Span}
use Rattle.py_typed.specs.Sorts as sort
use Rattle.py_typed.specs.Sorts.{Sort, sorts_of, TupleOf, Optional}
use Rattle.py_typed.specs.Expressions as node
use Rattle.py_typed.specs.Expressions.{TypedExpr, typed, type_of, exprs_of}
use Rattle.py_typed.specs.Statements.{LocalTarget}
use Rattle.py_check_messages.specs.Seen.{is, silent, fails}
use Rattle.py_check_messages.specs.Messages.{wrong_assignment, needs_annotation, no_attribute, cannot_unpack, cannot_assign, wrong_return, no_return_expected, return_outside, return_expected}
use Rattle.py_check_values.specs.Aims.{Aim, held, first, barred, lacking}
use Rattle.py_check_values.specs.Assignments.{assignment, lacking_fault, unpacking_fault}
use Rattle.py_check_values.specs.Returns.{bare_return, value_return, outside, untyped, gives}

abbrev place : Span
place = record { line = 1; col = 1 }

abbrev one : TypedExpr
one = typed (node.Int (pos 1)) sort.Int place

abbrev nothing : TypedExpr
nothing = typed node.Nothing sort.Nothing place

abbrev pair : TypedExpr
pair = typed (node.TupleOf (exprs_of (one ∷ one ∷ []))) (TupleOf (sorts_of (sort.Int ∷ sort.Int ∷ []))) place

-- a variable of this type, and one that has none yet
abbrev of_type : Sort → Aim
of_type t = held (LocalTarget 0) t

abbrev new_name : List ℕ → Aim
new_name x = first (LocalTarget 0) x

-- `x: i64 = 1`, `x: str = 1`, and `x = None`
changed : assignment [] (of_type sort.I64) one ≡ Ok (typed (node.Coerce one) sort.I64 place)
changed = refl

misfit : assignment [] (of_type sort.Str) one ≡ Err (wrong_assignment [] sort.Int sort.Str)
misfit = refl

first_none : assignment [] (new_name (codes "x")) nothing ≡ Err (needs_annotation (codes "x"))
first_none = refl

-- `self.a = 1`, where nothing declares a
undeclared : assignment [] (lacking (sort.Instance 0) (codes "a")) one ≡ Err (no_attribute [] (sort.Instance 0) (codes "a"))
undeclared = refl

-- of two such the first is told
first_undeclared : lacking_fault [] (barred (codes "len") ∷ lacking (sort.Instance 0) (codes "a") ∷ lacking (sort.Instance 0) (codes "b") ∷ []) ≡ Some (no_attribute [] (sort.Instance 0) (codes "a"))
first_undeclared = refl

-- a tuple of two for two targets, and for three
two_targets : unpacking_fault [] (of_type (Optional sort.Int) ∷ new_name (codes "b") ∷ []) (type_of pair) ≡ None
two_targets = refl

three_targets : unpacking_fault [] (new_name (codes "a") ∷ new_name (codes "b") ∷ new_name (codes "c") ∷ []) (type_of pair) ≡ Some (cannot_unpack [] (type_of pair) 3)
three_targets = refl

-- a name that cannot be assigned comes before the number
names_first : unpacking_fault [] (of_type sort.Str ∷ barred (codes "len") ∷ []) sort.Int ≡ Some (cannot_assign (codes "len"))
names_first = refl

returned : value_return [] place (gives sort.I64) one ≡ is (typed (node.Coerce one) sort.I64 place)
returned = refl

wrong_value : value_return [] place (gives sort.Str) one ≡ fails place (wrong_return [] sort.Int sort.Str)
wrong_value = refl

value_for_none : value_return [] place (gives sort.Nothing) one ≡ fails place no_return_expected
value_for_none = refl

none_for_none : value_return [] place (gives sort.Nothing) nothing ≡ is nothing
none_for_none = refl

in_no_function : value_return [] place outside one ≡ fails place return_outside
in_no_function = refl

no_signature : value_return [] place untyped one ≡ silent
no_signature = refl

value_due : bare_return place (gives sort.Int) ≡ fails place return_expected
value_due = refl
