-- Assignments (Python Language Reference, "Assignment statements"; PEP 484).
--
-- A value is assigned to one target, whose type it fits, and is changed to that type. A variable without a type takes that of
-- its first value, which is not None. Several targets take the items of a tuple of as many, each the item at its place; whether
-- these fit is not asked here. Names of functions, classes, imports and builtins are not assigned, of items only those of lists and
-- dicts, and an attribute only where the class of the object has it.
use Rattle.std.specs.Prelude.{ℕ, nat_eq, List, [], ◌∷◌, length, Option, Some, None, Result, if◌then◌else◌}
use Rattle.std.specs.Option.{option_map}
use Rattle.py_typed.specs.Sorts.{Sort, TupleOf, listed_sorts}
use Rattle.py_typed.specs.Classes.{ClassEntry}
use Rattle.py_typed.specs.Fits.{fits, is_nothing}
use Rattle.py_typed.specs.Expressions.{TypedExpr, type_of}
use Rattle.py_check_messages.specs.Seen.{Message}
use Rattle.py_check_messages.specs.Messages.{cannot_assign, index_target, cannot_unpack, needs_annotation, no_attribute, wrong_assignment}
use Rattle.py_check_coercions.specs.Values.{coerced}
use Rattle.py_check_coercions.specs.Rows.{first_of}
use Rattle.py_check_coercions.specs.Several.{unless}
use Rattle.py_check_values.specs.Aims.{Aim, held, first, barred, unwritten, lacking, misplaced}

-- ---- one target

-- what is wrong where a value of a type is bound to it. An expression that is no target has a rule of its own, which is asked first;
-- here it counts as an item that is not assigned
abbrev pub binding_fault : List ClassEntry → Aim → Sort → Option Message
binding_fault classes (held target t) s = if fits classes s t then None else Some (wrong_assignment classes s t)
binding_fault classes (first target x) s = if is_nothing s then Some (needs_annotation x) else None
binding_fault classes (barred x) s = Some (cannot_assign x)
binding_fault classes (unwritten t) s = Some (index_target classes t)
binding_fault classes (lacking t a) s = Some (no_attribute classes t a)
binding_fault classes (misplaced t) s = Some (index_target classes t)

-- the value as it is bound
abbrev pub as_bound : Aim → TypedExpr → TypedExpr
as_bound (held target t) e = coerced t e
as_bound a e = e

abbrev pub assignment : List ClassEntry → Aim → TypedExpr → Result TypedExpr Message
assignment classes a e = unless (binding_fault classes a (type_of e)) (as_bound a e)

-- ---- several targets

-- the first attribute that nothing declares
abbrev pub lacking_fault : List ClassEntry → List Aim → Option Message
lacking_fault classes [] = None
lacking_fault classes (lacking t x ∷ aims) = Some (no_attribute classes t x)
lacking_fault classes (a ∷ aims) = lacking_fault classes aims

-- the first name that cannot be assigned, and the first item that cannot
abbrev pub first_barred : List Aim → Option (List ℕ)
first_barred [] = None
first_barred (barred x ∷ aims) = Some x
first_barred (a ∷ aims) = first_barred aims

abbrev pub first_unwritten : List Aim → Option Sort
first_unwritten [] = None
first_unwritten (unwritten t ∷ aims) = Some t
first_unwritten (misplaced t ∷ aims) = Some t
first_unwritten (a ∷ aims) = first_unwritten aims

-- the types of a tuple's items, if there are so many
abbrev pub as_many : List Sort → ℕ → Option (List Sort)
as_many ts n = if nat_eq (length ts) n then Some ts else None

abbrev pub items_for : Sort → ℕ → Option (List Sort)
items_for (TupleOf ts) n = as_many (listed_sorts ts) n
items_for s n = None

-- what is wrong where a value of a type has not so many items
abbrev pub items_fault : List ClassEntry → ℕ → Sort → Option (List Sort) → Option Message
items_fault classes n s None = Some (cannot_unpack classes s n)
items_fault classes n s (Some ss) = None

-- what is wrong where a value of a type is taken apart for them, whatever its items are
abbrev pub unpacking_fault : List ClassEntry → List Aim → Sort → Option Message
unpacking_fault classes aims s =
    first_of (option_map cannot_assign (first_barred aims))
    (first_of (option_map (index_target classes) (first_unwritten aims))
    (items_fault classes (length aims) s (items_for s (length aims))))
