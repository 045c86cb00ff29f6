-- The heads of except clauses (Python Language Reference, "The except clause").
--
-- A clause names an exception class, or in a tuple one or more of them; a bare one, which is the last, stands for `Exception`. A name
-- there is only asked to be known, and no variable is read. The name behind `as` is bound as by an assignment of a value of the type
-- `Exception`: where it is a variable without a type nothing is said of the head.
use Rattle.std.specs.Prelude.{ℕ, Bool, false, List, [], ◌∷◌, not, Option, Some, None, is_some, Result, Err, if◌then◌else◌}
use Rattle.std.specs.Option.{option_map}
use Rattle.value_core.specs.declared.exception.ExcClass.{ExcClass}
use Rattle.value_core.specs.declared.exception.ExcClass.TheVariants.{Exception}
use Rattle.py_syntax.specs.declared.token.Span.{Span}
use Rattle.py_syntax.specs.Expressions as tree
use Rattle.py_syntax.specs.Expressions.{ExprTree, at, ExprTrees, no_exprs, expr_then}
use Rattle.py_typed.specs.Sorts.{Exc}
use Rattle.py_typed.specs.Classes.{ClassEntry}
use Rattle.py_typed.specs.Statements.{TypedTarget}
use Rattle.py_check_context.specs.Context.{Context, free}
use Rattle.py_check_flow.specs.Bindings.{name_in}
use Rattle.py_check_messages.specs.Seen.{Seen, Message, is, silent, both, rule, made}
use Rattle.py_check_messages.specs.Rows.{row_then}
use Rattle.py_check_messages.specs.Messages.{no_exception_class, bare_except}
use Rattle.py_check_coercions.specs.Several.{unless}
use Rattle.py_check_values.specs.Aims.{Aim, held, first}
use Rattle.py_check_values.specs.Assignments.{binding_fault}
use Rattle.py_check_places.specs.Places.{Known, bind_name}
use Rattle.py_check_targets.specs.Targets.{typed_at, name_aim, seen_aim}
use Rattle.py_check_exceptions.specs.declared.asked.Asked.{Asked}
use Rattle.py_check_exceptions.specs.declared.asked.Asked.TheVariants.{Class, Variable, Voiceless, Other}
use Rattle.py_check_exceptions.specs.Raises.{asked}

-- ---- the classes that a clause names

-- a name in the place of a class: the class, or what is none
abbrev pub named_class : Asked → Seen (Option ExcClass)
named_class (Class x) = is (Some x)
named_class Variable = is None
named_class Voiceless = silent
named_class Other = is None

-- a row of one
abbrev pub only : Option ExcClass → List (Option ExcClass)
only x = x ∷ []

-- the items of a tuple
abbrev pub tuple_items : ExprTree → Option ExprTrees
tuple_items (at (tree.TupleOf es) span) = Some es
tuple_items e = None

-- all of them, where each is an exception class
abbrev pub all_classes : List (Option ExcClass) → Option (List ExcClass)
all_classes [] = Some []
all_classes (None ∷ more) = None
all_classes (Some x ∷ more) = option_map (λ xs. x ∷ xs) (all_classes more)

-- there has to be one
abbrev pub some_classes : List (Option ExcClass) → Option (List ExcClass)
some_classes [] = None
some_classes (x ∷ more) = all_classes (x ∷ more)

-- ---- whole heads

-- what the exception is bound to
abbrev pub named : Aim → Option Aim
named a = Some a

abbrev pub name_target : Option Aim → Option TypedTarget
name_target (Some (held target t)) = Some target
name_target (Some (first target x)) = Some target
name_target a = None

abbrev pub name_fault : List ClassEntry → Option Aim → Option Message
name_fault classes None = None
name_fault classes (Some a) = binding_fault classes a (Exc Exception)

-- what is wrong with a head of exception classes, which is a bare one before others or not
abbrev pub head_fault : List ClassEntry → Bool → Option Aim → Option Message
head_fault classes early a = if early then Some bare_except else name_fault classes a

abbrev pub head_by : List ClassEntry → Bool → Option (List ExcClass) → Option Aim → Result (List ExcClass × Option TypedTarget) Message
head_by classes early None a = Err no_exception_class
head_by classes early (Some xs) a = unless (head_fault classes early a) (xs, name_target a)

abbrev pub head : List ClassEntry → Bool → List (Option ExcClass) × Option Aim → Result (List ExcClass × Option TypedTarget) Message
head classes early p = head_by classes early (some_classes p.0) p.1

-- a bare clause that is not the last
abbrev pub is_early : Option ExprTree → Bool → Bool
is_early None last = not last
is_early (Some e) last = false

module _ (c : Context) where
  -- any other expression, which is typed
  abbrev pub no_class : Known → ExprTree → Seen (Option ExcClass)
  no_class k e = made (λ t. None) (typed_at c k free e)

  -- an expression in the place of a class, by the name that it is, if it is one
  abbrev pub class_by : Known → ExprTree → Option (List ℕ) → Seen (Option ExcClass)
  class_by k e None = no_class k e
  class_by k e (Some x) = named_class (asked (c.meaning x))

  abbrev pub class_at : Known → ExprTree → Seen (Option ExcClass)
  class_at k e = class_by k e (name_in e)

  abbrev pub classes_along : Known → ExprTrees → Seen (List (Option ExcClass))
  classes_along k no_exprs = is []
  classes_along k (expr_then e more) = row_then (class_at k e) (classes_along k more)

  -- of a tuple its items, and of anything else itself
  abbrev pub caught_by : Known → ExprTree → Option ExprTrees → Seen (List (Option ExcClass))
  caught_by k e None = made only (class_at k e)
  caught_by k e (Some es) = classes_along k es

  abbrev pub caught : Known → Option ExprTree → Seen (List (Option ExcClass))
  caught k None = is (only (Some Exception))
  caught k (Some e) = caught_by k e (tuple_items e)

  -- what the exception is bound to, if it is
  abbrev pub name_at : Known → Option (List ℕ) → Seen (Option Aim)
  name_at k None = is None
  name_at k (Some x) = made named (seen_aim (name_aim k x (c.meaning x)))

  -- THE HEAD of a clause with this class and this name, which is the last one or not
  abbrev pub handler_head : Known → Span → Option ExprTree → Option (List ℕ) → Bool → Seen (List ExcClass × Option TypedTarget)
  handler_head k span e x last = rule span (head c.classes (is_early e last)) (both (caught k e) (name_at k x))

  -- what is known where its body begins: the name is bound, whether the head holds or is refused
  abbrev pub in_handler : Known → Span → Option ExprTree → Option (List ℕ) → Bool → Known
  in_handler k span e x last = bind_name c (is_some (handler_head k span e x last).got) k x (Some (Exc Exception))
