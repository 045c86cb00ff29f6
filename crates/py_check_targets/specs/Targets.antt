-- What is assigned to (Python Language Reference, "Assignment statements"; PEP 484).
--
-- A target is a name, an item, an attribute, or a flat tuple of these. The rule of an item or an attribute, which is an expression, is
-- asked before that of the assignment. No name of a target is read by it. Where a target is a variable without a type nothing is said of
-- what holds it. Where a target sets an attribute that nothing declares, that is told before all else, once the object and all other
-- parts are typed.
-- The value is asked for the types of its targets, where each of these has one before anything is known of the value, and else for
-- nothing. Then the targets are bound one behind the other, so an item is looked at with what is known once the names before it are
-- bound to their parts, and the value has to fit what its targets are then. A tuple display that does not fit what it was asked for may
-- have an item None, at any depth, which no other tuple has: such a one has to fit what it was asked for too.
use Rattle.std.specs.Prelude.{ℕ, Bool, true, false, ◌&&◌, ◌||◌, if◌then◌else◌, List, [], ◌∷◌, ◌++◌, length, Option, Some, None, unwrap_or, Result, Ok, Err}
use Rattle.std.specs.List.{list_all, flat_map}
use Rattle.std.specs.Option.{option_map}
use Rattle.std.specs.Map.{lookup}
use Rattle.std.specs.Str.{bytes_eq}
use Rattle.py_syntax.specs.declared.token.Span.{Span}
use Rattle.py_syntax.specs.declared.expression.BinOp.{BinOp}
use Rattle.py_syntax.specs.Expressions.{ExprTree}
use Rattle.py_typed.specs.Sorts.{Sort, Sorts, no_sorts, sort_then, sorts_of}
use Rattle.py_typed.specs.Sorts as sort
use Rattle.py_typed.specs.Classes.{ClassEntry}
use Rattle.py_typed.specs.Fits.{fits}
use Rattle.py_typed.specs.Expressions as node
use Rattle.py_typed.specs.Expressions.{TypedExpr, typed, type_of}
use Rattle.py_typed.specs.Statements as act
use Rattle.py_typed.specs.Statements.{TypedTarget, LocalTarget, GlobalTarget, AttrTarget, ItemTarget, TypedAct}
use Rattle.py_check_context.specs.declared.scope.Meaning.{Meaning}
use Rattle.py_check_context.specs.declared.scope.Meaning.TheVariants as meaning
use Rattle.py_check_context.specs.Context.{Context, VarSort, unset, untyped, has, var_at, Wanted, free, wants_some}
use Rattle.py_check_flow.specs.Bindings.{name_in}
use Rattle.py_check_places.specs.Shapes.{is_access, is_row, is_flat, leaves, some_parts, parts_of}
use Rattle.py_check_messages.specs.Seen.{Seen, Message, is, made}
use Rattle.py_check_messages.specs.Rows.{row_then}
use Rattle.py_check_messages.specs.Messages.{no_target, cannot_assign, already_defined, no_attribute, wrong_assignment}
use Rattle.py_check_coercions.specs.Rows.{first_of}
use Rattle.py_check_coercions.specs.Several.{unless}
use Rattle.py_check_operators.specs.Operators.{arithmetic}
use Rattle.py_check_expressions.specs.Typing.{typing}
use Rattle.py_check_values.specs.Aims.{Aim, held, first, barred, unwritten, lacking, misplaced}
use Rattle.py_check_values.specs.Assignments.{assignment, binding_fault, lacking_fault, unpacking_fault, items_for}
use Rattle.py_check_places.specs.Places.{Known, with_names, known_behind}
use Rattle.py_check_targets.specs.Attributes.{lacking_in}

-- ---- single targets

-- a variable, by its type so far; there is none where that hangs on what has no type
abbrev pub variable_aim : TypedTarget → List ℕ → VarSort → Option Aim
variable_aim target x (has t) = Some (held target t)
variable_aim target x unset = Some (first target x)
variable_aim target x untyped = None

abbrev pub name_aim : Known → List ℕ → Meaning → Option Aim
name_aim k x (meaning.Local i) = variable_aim (LocalTarget i) x (var_at k.types.locals i)
name_aim k x (meaning.Global i) = variable_aim (GlobalTarget i) x (var_at k.types.globals i)
name_aim k x m = Some (barred x)

-- nothing is said of what holds a target without a type
abbrev pub seen_aim : Option Aim → Seen Aim
seen_aim a = record { got = a; said = [] }

-- an item: those of lists and dicts are written
abbrev pub is_written : Sort → Bool
is_written (sort.ListOf t) = true
is_written (sort.DictOf k t) = true
is_written t = false

abbrev pub part_aim : TypedExpr → TypedExpr → Sort → Aim
part_aim e i t = if is_written (type_of e) then held (ItemTarget e i) t else unwritten (type_of e)

-- and an attribute
abbrev pub access_aim : TypedExpr → Aim
access_aim (typed (node.At e i) t place) = part_aim e i t
access_aim (typed (node.TupleAt e i) t place) = unwritten (type_of e)
access_aim (typed (node.Attr e a) t place) = held (AttrTarget e a) t
access_aim e = misplaced (type_of e)

-- an expression, which is written as an item or an attribute or not
abbrev pub value_aim : Bool → TypedExpr → Aim
value_aim written e = if written then access_aim e else misplaced (type_of e)

-- an attribute of this object that nothing declares
abbrev pub lacking_aim : List ℕ → TypedExpr → Aim
lacking_aim a e = lacking (type_of e) a

abbrev pub target_of : Aim → List TypedTarget
target_of (held target t) = target ∷ []
target_of (first target x) = target ∷ []
target_of a = []

abbrev pub is_placed : Aim → Bool
is_placed (misplaced t) = false
is_placed a = true

-- a name, and neither an item nor an attribute
abbrev pub is_name_target : TypedTarget → Bool
is_name_target (LocalTarget i) = true
is_name_target (GlobalTarget i) = true
is_name_target target = false

abbrev pub is_name_aim : Aim → Bool
is_name_aim (held target t) = is_name_target target
is_name_aim (first target x) = true
is_name_aim (barred x) = true
is_name_aim a = false

-- ---- whole targets

-- the types of the targets, where each has one
abbrev pub held_sorts : List Aim → Option (List Sort)
held_sorts [] = Some []
held_sorts (held target t ∷ more) = option_map (λ ts. t ∷ ts) (held_sorts more)
held_sorts (a ∷ more) = None

abbrev pub tuple_sort : List Sort → Sort
tuple_sort ts = sort.TupleOf (sorts_of ts)

-- what targets ask of the value: that of a single one, or their tuple
abbrev pub single_sort : List Aim → Option Sort
single_sort (held target t ∷ []) = Some t
single_sort aims = None

abbrev pub sort_for : Bool → List Aim → Option Sort
sort_for several aims = if several then option_map tuple_sort (held_sorts aims) else single_sort aims

abbrev pub asked_sort : Bool → Option (List Aim) → Option Sort
asked_sort several None = None
asked_sort several (Some aims) = sort_for several aims

abbrev pub asked_by : Bool → Option (List Aim) → Wanted
asked_by several aims = wants_some (asked_sort several aims)

-- the parts of a value that targets take one behind the other: nothing is known of them yet, or they have these types. A part of
-- which nothing is known may be None; one that the value does not have is without a type
abbrev pub next_part : Option (List Sort) → Option Sort
next_part None = Some sort.Nothing
next_part (Some []) = None
next_part (Some (t ∷ ts)) = Some t

abbrev pub more_parts : Option (List Sort) → Option (List Sort)
more_parts None = None
more_parts (Some []) = Some []
more_parts (Some (t ∷ ts)) = Some ts

-- ---- a value for targets

abbrev pub targets_of : List Aim → List TypedTarget
targets_of aims = flat_map target_of aims

-- they can be assigned to
abbrev pub are_placed : Bool → List Aim → Bool
are_placed flat aims = flat && list_all is_placed aims

-- what has a type takes what fits it; so does a new name that stands twice, by the type of its first part
abbrev pub again_fault : List ClassEntry → Option Sort → Sort → Option Message
again_fault classes None s = None
again_fault classes (Some t) s = if fits classes s t then None else Some (wrong_assignment classes s t)

-- what is wrong with the part that one target takes, behind these new names with the types of their first parts
abbrev pub part_fault : List ClassEntry → List (List ℕ × Sort) → Aim → Sort → Option Message
part_fault classes seen (held target t) s = again_fault classes (Some t) s
part_fault classes seen (first target x) s = again_fault classes (lookup (bytes_eq x) seen) s
part_fault classes seen a s = None

-- the new names with that of one more target
abbrev pub with_new_name : List (List ℕ × Sort) → Aim → Sort → List (List ℕ × Sort)
with_new_name seen (first target x) s = seen ++ (x, s) ∷ []
with_new_name seen a s = seen

-- the first part that does not fit
abbrev pub parts_fault : List ClassEntry → List (List ℕ × Sort) → List Aim → List Sort → Option Message
parts_fault classes seen (a ∷ more) (s ∷ ss) = first_of (part_fault classes seen a s) (parts_fault classes (with_new_name seen a s) more ss)
parts_fault classes seen aims ss = None

-- what is wrong where a value of a type is bound to several targets
abbrev pub several_fault : List ClassEntry → List Aim → Sort → Option Message
several_fault classes aims t =
    first_of (unpacking_fault classes aims t) (parts_fault classes [] aims (some_parts (items_for t (length aims))))

abbrev mutual
  -- None's type, and that of a tuple that has such an item
  pub holds_none : Sort → Bool
  holds_none sort.Nothing = true
  holds_none (sort.TupleOf ts) = hold_none ts
  holds_none t = false

  pub hold_none : Sorts → Bool
  hold_none no_sorts = false
  hold_none (sort_then t ts) = holds_none t || hold_none ts

-- a value that was asked for the types of its targets, and may not fit these, part by part
abbrev pub unfit_fault : List ClassEntry → List Sort → List Sort → Option Message
unfit_fault classes (t ∷ ts) (s ∷ ss) = first_of (again_fault classes (Some t) s) (unfit_fault classes ts ss)
unfit_fault classes ts ss = None

-- for so many targets: it has to fit them where its type has an item of None's type
abbrev pub asked_fault : List ClassEntry → ℕ → Option Sort → Sort → Option Message
asked_fault classes n None s = None
asked_fault classes n (Some t) s =
    if holds_none s then unfit_fault classes (some_parts (items_for t n)) (some_parts (items_for s n)) else None

-- what is wrong where a value that was asked for this, if for anything, is bound to several targets
abbrev pub taking_fault : List ClassEntry → Option Sort → List Aim → Sort → Option Message
taking_fault classes asked aims s = first_of (several_fault classes aims s) (asked_fault classes (length aims) asked s)

abbrev pub one_assigned : List ClassEntry → List Aim → TypedExpr → Result TypedExpr Message
one_assigned classes (a ∷ []) e = assignment classes a e
one_assigned classes aims e = Err no_target

abbrev pub value_assigned : List ClassEntry → Bool → Option Sort → List Aim → TypedExpr → Result TypedExpr Message
value_assigned classes several asked aims e = if several then unless (taking_fault classes asked aims (type_of e)) e else one_assigned classes aims e

abbrev pub act_of : List TypedTarget → Result TypedExpr Message → Result TypedAct Message
act_of ts (Ok e) = Ok (act.Assign ts e)
act_of ts (Err m) = Err m

-- of the targets and the value, which was asked for this, if for anything
abbrev pub placed : List ClassEntry → ExprTree → Option Sort → List Aim × TypedExpr → Result TypedAct Message
placed classes target asked p =
    if are_placed (is_flat target) p.0 then act_of (targets_of p.0) (value_assigned classes (is_row target) asked p.0 p.1)
    else Err no_target

-- what is wrong comes before a rule
abbrev pub fault_or : {A : Type 0} → Option Message → Result A Message → Result A Message
fault_or (Some m) r = Err m
fault_or None r = r

abbrev pub assigned : List ClassEntry → ExprTree → Option Sort → List Aim × TypedExpr → Result TypedAct Message
assigned classes target asked p = fault_or (lacking_fault classes p.0) (placed classes target asked p)

-- ---- an annotation

-- what is wrong with an annotation of a name, which was bound before or not
abbrev pub annotation_fault : List ℕ → Bool → Aim → Option Message
annotation_fault x bound (barred y) = Some (cannot_assign x)
annotation_fault x bound a = if bound then Some (already_defined x) else None

-- without a value, and with one
abbrev pub declared : List ℕ → Bool → Aim × Sort → Result TypedAct Message
declared x bound p = unless (annotation_fault x bound p.0) act.Pass

abbrev pub given_after : List ClassEntry → Option Message → Aim → TypedExpr → Result TypedAct Message
given_after classes fault a e = fault_or fault (act_of (target_of a) (assignment classes a e))

abbrev pub given : List ClassEntry → List ℕ → Bool → (Aim × Sort) × TypedExpr → Result TypedAct Message
given classes x bound p = given_after classes (annotation_fault x bound p.0.0) p.0.0 p.1

-- an attribute of the object that an `__init__` sets up, where this is wrong with its annotation
abbrev pub declared_own : Option Message → List Aim × Sort → Result TypedAct Message
declared_own fault p = unless fault act.Pass

abbrev pub taken_own : List ClassEntry → ExprTree → Option Message → List Aim × TypedExpr → Result TypedAct Message
taken_own classes target fault p = fault_or fault (assigned classes target None p)

abbrev pub given_own : List ClassEntry → ExprTree → Option Message → (List Aim × Sort) × TypedExpr → Result TypedAct Message
given_own classes target fault p = taken_own classes target fault (p.0.0, p.1)

-- ---- an operation with assignment

-- to this target, of this operand, from the type of the operation's value
abbrev pub written_back : BinOp → TypedExpr → Sort → Option Message → List TypedTarget → Result TypedAct Message
written_back o b s (Some m) ts = Err m
written_back o b s None (target ∷ ts) = Ok (act.Aug target o b s)
written_back o b s None [] = Err no_target

abbrev pub updated_to : List ClassEntry → Aim → BinOp → TypedExpr → Sort → Result TypedAct Message
updated_to classes a o b s =
    if is_placed a then written_back o b s (binding_fault classes a s) (target_of a) else Err no_target

abbrev pub of_operation : List ClassEntry → Aim → BinOp → TypedExpr → Result TypedExpr Message → Result TypedAct Message
of_operation classes a o b (Ok r) = updated_to classes a o b (type_of r)
of_operation classes a o b (Err m) = Err m

-- to an attribute that nothing declares
abbrev pub updated_lacking : List ClassEntry → List ℕ → TypedExpr × TypedExpr → Result TypedAct Message
updated_lacking classes a p = Err (no_attribute classes (type_of p.0) a)

-- of the target's value and the operand
abbrev pub updated : List ClassEntry → Span → BinOp → (TypedExpr → Aim) → TypedExpr × TypedExpr → Result TypedAct Message
updated classes span o aim p = of_operation classes (aim p.0) o p.1 (arithmetic classes span o p)

module _ (c : Context) where
  abbrev pub typed_at : Known → Wanted → ExprTree → Seen TypedExpr
  typed_at k w e = typing c k.types w k.names e

  -- a single target that is no name, by the attribute that it lacks, if it does
  abbrev pub other_aim : Known → ExprTree → Option (ExprTree × List ℕ) → Seen Aim
  other_aim k e None = made (value_aim (is_access e)) (typed_at k free e)
  other_aim k e (Some p) = made (lacking_aim p.1) (typed_at k free p.0)

  -- a single target
  abbrev pub single_aim : Known → Option (List ℕ) → ExprTree → Seen Aim
  single_aim k (Some x) e = seen_aim (name_aim k x (c.meaning x))
  single_aim k None e = other_aim k e (lacking_in c e)

  -- behind a target with this name, if it is one, which takes a part of a value
  abbrev pub beyond : Known → Option (List ℕ) → Option Sort → Known
  beyond k x t = with_names k (known_behind c x t k.names)

  abbrev pub aims : Known → Option (List Sort) → List ExprTree → Seen (List Aim)
  aims k ts [] = is []
  aims k ts (e ∷ more) = row_then (single_aim k (name_in e) e) (aims (beyond k (name_in e) (next_part ts)) (more_parts ts) more)

  -- the single targets of a target, where nothing is known of the value yet
  abbrev pub target_aims : Known → ExprTree → Seen (List Aim)
  target_aims k target = aims k None (leaves target)

  -- and as a value of this type, if it has one, is bound to them
  abbrev pub aims_behind : Known → ExprTree → Option Sort → Seen (List Aim)
  aims_behind k target t = aims k (Some (parts_of (is_row target) (length (leaves target)) t)) (leaves target)

  -- one that was read
  abbrev pub read_aim : Known → Option (List ℕ) → Bool → TypedExpr → Aim
  read_aim k (Some x) access a = unwrap_or (name_aim k x (c.meaning x)) (misplaced (type_of a))
  read_aim k None access a = value_aim access a
