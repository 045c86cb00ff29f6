-- What a `for` goes over (Python Language Reference, "The for statement"; mypyc's guide, "Native integer types").
--
-- A call of `range` takes one bound or two, which are numbers; its items are i64 where a bound is, else int, and both bounds are
-- of their type. The items of a list are its items, and those of a dict its keys.
use Rattle.std.specs.Prelude.{ℕ, suc, Bool, true, false, ◌&&◌, List, [], ◌∷◌, codes, Option, Some, None, Result, Ok, Err, if◌then◌else◌}
use Rattle.std.specs.List.{list_all}
use Rattle.py_syntax.specs.declared.token.Span.{Span}
use Rattle.py_syntax.specs.Expressions as tree
use Rattle.py_syntax.specs.Expressions.{ExprTree, at, Arguments}
use Rattle.py_typed.specs.Sorts.{Sort}
use Rattle.py_typed.specs.Sorts as sort
use Rattle.py_typed.specs.Classes.{ClassEntry}
use Rattle.py_typed.specs.Fits.{is_number, number_join}
use Rattle.py_typed.specs.Expressions.{TypedExpr, type_of}
use Rattle.py_typed.specs.Statements as act
use Rattle.py_typed.specs.Statements.{TypedTarget, TypedSuite, TypedAct}
use Rattle.py_check_context.specs.Context.{Context, free, along}
use Rattle.py_check_context.specs.declared.scope.Meaning.{Meaning}
use Rattle.py_check_context.specs.declared.scope.Meaning.TheVariants as meaning
use Rattle.py_check_context.specs.declared.scope.Builtin.TheVariants as builtin
use Rattle.py_check_flow.specs.Bindings.{name_in}
use Rattle.py_check_messages.specs.Seen.{Seen, Message, behind, rule, made}
use Rattle.py_check_messages.specs.Messages.{no_target, not_iterable, wrong_number, wrong_argument}
use Rattle.py_check_coercions.specs.Values.{coerced}
use Rattle.py_check_coercions.specs.Several.{unless}
use Rattle.py_check_calls.specs.Callees.{has_key}
use Rattle.py_check_calls.specs.Calls.{positional}
use Rattle.py_check_expressions.specs.Typing.{arguments}
use Rattle.py_check_values.specs.Aims.{Aim}
use Rattle.py_check_values.specs.Assignments.{binding_fault}
use Rattle.py_check_places.specs.Places.{Known}
use Rattle.py_check_targets.specs.Targets.{is_name_aim, several_fault, typed_at}

-- the bounds of a range, or a value
pub data Course : Type 0 where
  numbers : Option TypedExpr → TypedExpr → Course
  value : TypedExpr → Course

-- ---- `range`

-- the first argument that is no number, where the first of all has the number i
abbrev pub no_number : ℕ → List TypedExpr → Option (ℕ × Sort)
no_number i [] = None
no_number i (e ∷ es) = if is_number (type_of e) then no_number (suc i) es else Some (i, type_of e)

abbrev pub bounds : List TypedExpr → Result Course Message
bounds (b ∷ []) = Ok (numbers None (coerced (number_join (type_of b) sort.Int) b))
bounds (a ∷ b ∷ []) = Ok (numbers (Some (coerced (number_join (type_of a) (type_of b)) a)) (coerced (number_join (type_of a) (type_of b)) b))
bounds es = Err (wrong_number (codes "range") (codes "1 or 2"))

abbrev pub bounds_of_numbers : List ClassEntry → List TypedExpr → Option (ℕ × Sort) → Result Course Message
bounds_of_numbers classes es (Some p) = Err (wrong_argument classes p.0 (codes "range") p.1 (codes "number"))
bounds_of_numbers classes es None = bounds es

abbrev pub is_count_right : List TypedExpr → Bool
is_count_right (a ∷ []) = true
is_count_right (a ∷ b ∷ []) = true
is_count_right es = false

abbrev pub range_call : List ClassEntry → List TypedExpr → Result Course Message
range_call classes es =
    if is_count_right es then bounds_of_numbers classes es (no_number 1 es) else Err (wrong_number (codes "range") (codes "1 or 2"))

-- ---- what is gone over

-- the type of its items
abbrev pub items_of : Sort → Option Sort
items_of (sort.ListOf t) = Some t
items_of (sort.DictOf k t) = Some k
items_of t = None

abbrev pub course_items : Course → Option Sort
course_items (numbers a b) = Some (type_of b)
course_items (value e) = items_of (type_of e)

abbrev pub course_type : Course → Sort
course_type (numbers a b) = type_of b
course_type (value e) = type_of e

abbrev pub is_range : Meaning → Bool
is_range (meaning.Builtin builtin.Range) = true
is_range m = false

-- the name of `range`, and the arguments of a call of it
abbrev pub is_range_name : Context → Option (List ℕ) → Bool
is_range_name c None = false
is_range_name c (Some x) = is_range (c.meaning x)

abbrev pub range_arguments : Context → ExprTree → Option Arguments
range_arguments c (at (tree.Call f args) span) = if is_range_name c (name_in f) then Some args else None
range_arguments c e = None

abbrev pub span_of : ExprTree → Span
span_of (at node span) = span

module _ (c : Context) where
  abbrev pub course_by : Known → Option Arguments → ExprTree → Seen Course
  course_by k (Some args) e =
      rule (span_of e) (range_call c.classes)
      (behind (arguments c k.types (along []) 0 k.names args) (positional (span_of e) (has_key args)))
  course_by k None e = made value (typed_at c k free e)

  abbrev pub course : Known → ExprTree → Seen Course
  course k e = course_by k (range_arguments c e) e

-- ---- the head of a loop

-- what is wrong where items of a type are bound to targets
abbrev pub items_fault : List ClassEntry → Bool → List Aim → Sort → Option Message
items_fault classes true aims t = several_fault classes aims t
items_fault classes false (a ∷ []) t = binding_fault classes a t
items_fault classes false aims t = Some no_target

abbrev pub are_names : Bool → List Aim → Bool
are_names flat aims = flat && list_all is_name_aim aims

abbrev pub head_fault : List ClassEntry → Bool → Bool → List Aim → Sort → Option Sort → Option Message
head_fault classes flat several aims s None = Some (not_iterable classes s)
head_fault classes flat several aims s (Some t) = if are_names flat aims then items_fault classes several aims t else Some no_target

abbrev pub head : List ClassEntry → Bool → Bool → List Aim × Course → Result (List Aim × Course) Message
head classes flat several p = unless (head_fault classes flat several p.0 (course_type p.1) (course_items p.1)) p

-- the loop over it
abbrev pub loop_over : List TypedTarget → Sort → TypedExpr → TypedSuite → TypedAct
loop_over ts (sort.DictOf k t) e body = act.ForDict ts e body
loop_over ts s e body = act.ForList ts e body

abbrev pub loop_of : List TypedTarget → Course → TypedSuite → TypedAct
loop_of ts (numbers a b) body = act.ForRange ts a b body
loop_of ts (value e) body = loop_over ts (type_of e) e body
