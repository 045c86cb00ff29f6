-- When what is typed is well typed: what is asked of the expression as it is written, of the context, and of the place.
use Rattle.std.specs.Prelude.{◌≡◌, ℕ, Bool, true, false, ◌&&◌, List, length, drop, codes, Option, Some, slice_get}
use Rattle.std.specs.List.{list_all}
use Rattle.std.specs.Str.{is_utf8}
use Rattle.py_syntax.specs.Expressions as tree
use Rattle.py_syntax.specs.Expressions.{ExprTree, ExprNode, at, ExprTrees, no_exprs, expr_then, Comparisons, no_comparisons, comparison_then, Entries, no_entries, entry_then, Arguments, no_arguments, argument_then, keyed_then}
use Rattle.py_typed.specs.Sorts.{Sort, Nothing}
use Rattle.py_typed.specs.Classes.{ClassEntry, Signature}
use Rattle.py_typed.specs.Fits.{fits}
use Rattle.py_typed.specs.Order.{order, listed_order, method_along, method_of, attribute_of}
use Rattle.py_typed.specs.Laws.{IsClassTree}
use Rattle.py_typed.specs.Expressions.{TypedExpr, type_of}
use Rattle.py_typed.specs.Statements.{Variable, TypedModule}
use Rattle.py_typed.specs.Narrowing as typed
use Rattle.py_typed.specs.Narrowing.{is_in}
use Rattle.py_typed.specs.WellTypedExpr as expr
use Rattle.py_typed.specs.WellTypedExpr.{is_literal, is_value_type, is_result_type, declared, is_function}
use Rattle.py_check_context.specs.declared.scope.Meaning.TheVariants as meaning
use Rattle.py_check_context.specs.Members.{attribute, method, Inside}
use Rattle.py_check_context.specs.Context.{Context, has, VarSorts, var_at, Wanted, test, wants, dropped, some_signature}
use Rattle.py_check_coercions.specs.Values.{truth}
use Rattle.py_check_operators.specs.Facts.{facts}
use Rattle.py_check_expressions.specs.Typing.{typing}

-- ---- expressions that a text can write

abbrev pub is_chain : Comparisons → Bool
is_chain no_comparisons = false
is_chain (comparison_then o e more) = true

-- literals are within the language's bounds, and a comparison compares something; what is no part of its call is not looked at
abbrev mutual
  pub is_written : ExprTree → Bool
  is_written (at node span) = is_written_node node

  pub is_written_node : ExprNode → Bool
  is_written_node (tree.Int n) = is_literal n
  is_written_node (tree.Str text) = is_utf8 text
  is_written_node (tree.Neg e) = is_written e
  is_written_node (tree.Plus e) = is_written e
  is_written_node (tree.Not e) = is_written e
  is_written_node (tree.Bin o a b) = is_written a && is_written b
  is_written_node (tree.Compare e cs) = is_written e && is_chain cs && are_operands cs
  is_written_node (tree.And a b) = is_written a && is_written b
  is_written_node (tree.Or a b) = is_written a && is_written b
  is_written_node (tree.Cond a t b) = is_written a && is_written t && is_written b
  is_written_node (tree.ListOf es) = are_written es
  is_written_node (tree.DictOf es) = are_entries es
  is_written_node (tree.TupleOf es) = are_written es
  is_written_node (tree.Attr e a) = is_written e
  is_written_node (tree.Index e i) = is_written e && is_written i
  is_written_node (tree.Call f args) = is_written f && are_arguments args
  is_written_node node = true

  pub are_written : ExprTrees → Bool
  are_written no_exprs = true
  are_written (expr_then e more) = is_written e && are_written more

  pub are_operands : Comparisons → Bool
  are_operands no_comparisons = true
  are_operands (comparison_then o e more) = is_written e && are_operands more

  pub are_entries : Entries → Bool
  are_entries no_entries = true
  are_entries (entry_then k e more) = is_written k && is_written e && are_entries more

  pub are_arguments : Arguments → Bool
  are_arguments no_arguments = true
  are_arguments (argument_then e more) = is_written e && are_arguments more
  are_arguments (keyed_then k e more) = is_written e && are_arguments more

-- ---- contexts

-- the variable of a number is declared with this type, which is one that a variable may have
pub record IsDeclared (classes : List ClassEntry) (variables : List Variable) (i : ℕ) (t : Sort) : Type 0 where
  pub is : declared variables i ≡ Some t
  pub type : is_value_type (length classes) t ≡ true

-- the number is that of a function or a method of this signature, whose types are types
pub record IsSigned (m : TypedModule) (i : ℕ) (s : Signature) : Type 0 where
  pub is : slice_get m.classes.signatures i ≡ Some s
  pub params : list_all (is_value_type (length m.classes.classes)) s.params ≡ true
  pub ret : is_result_type (length m.classes.classes) s.ret ≡ true

-- and of a function
pub record IsFunctionSigned (m : TypedModule) (i : ℕ) (s : Signature) : Type 0 where
  pub function : is_function (slice_get m.funcs i) ≡ true
  pub signed : IsSigned m i s

-- and of an `__init__`, which gives nothing
pub record IsInitSigned (m : TypedModule) (i : ℕ) (s : Signature) : Type 0 where
  pub nothing : s.ret ≡ Nothing
  pub signed : IsSigned m i s

-- the method of a class is this one, of this signature
pub record IsMethod (m : TypedModule) (n : ℕ) (a : List ℕ) (f : ℕ) (s : Signature) : Type 0 where
  pub is : method_of m.classes.classes n a ≡ Some f
  pub signed : IsSigned m f s

-- the `__init__` of a class of this number, and the next `__init__` behind the class along its order
pub record IsInside (classes : List ClassEntry) (init : Option ℕ) (n : ℕ) (next : Option ℕ) : Type 0 where
  pub is : init ≡ Some n
  pub behind : method_along classes (codes "__init__") (drop 1 (listed_order (order classes n))) ≡ next

-- a context of a function with these locals in a module, which is the `__init__` of this class, if it is one: it has the module's
-- classes, which are a tree; what has a type has the declared one; what names a function with a signature names one of the
-- module's; and what a class has under a name it has along its order in the module
pub record Describes (c : Context) (vars : VarSorts) (m : TypedModule) (locals : List Variable) (init : Option ℕ) : Type 0 where
  pub classes : m.classes.classes ≡ c.classes
  pub tree : IsClassTree c.classes
  pub locals_are : (i : ℕ) (t : Sort) → var_at vars.locals i ≡ has t → IsDeclared c.classes locals i t
  pub globals_are : (i : ℕ) (t : Sort) → var_at vars.globals i ≡ has t → IsDeclared c.classes m.globals i t
  pub functions_are : (x : List ℕ) (i : ℕ) (s : Signature) → c.meaning x ≡ meaning.Function i → some_signature (slice_get c.signatures i) ≡ Some s → IsFunctionSigned m i s
  pub attributes_are : (n : ℕ) (a : List ℕ) (t : Sort) → c.member n a ≡ Some (attribute t) → attribute_of c.classes n a ≡ Some t
  pub attributes_typed : (n : ℕ) (a : List ℕ) (t : Sort) → attribute_of c.classes n a ≡ Some t → is_value_type (length c.classes) t ≡ true
  pub methods_are : (n : ℕ) (a : List ℕ) (f : ℕ) (s : Signature) → c.member n a ≡ Some (method f) → some_signature (slice_get c.signatures f) ≡ Some s → IsMethod m n a f s
  pub inits_are : (n : ℕ) → method_of c.classes n (codes "__init__") ≡ c.init n
  pub inits_signed : (n : ℕ) (f : ℕ) (s : Signature) → c.init n ≡ Some f → some_signature (slice_get c.signatures f) ≡ Some s → IsInitSigned m f s
  pub inside_is : (i : Inside) (n : ℕ) → c.inside ≡ Some i → i.is_init ≡ true → i.class ≡ Some n → IsInside c.classes init n i.next_init
  pub next_signed : (i : Inside) (f : ℕ) (s : Signature) → c.inside ≡ Some i → i.next_init ≡ Some f → some_signature (slice_get c.signatures f) ≡ Some s → IsInitSigned m f s

-- ---- places

-- a type that is asked for is one
abbrev pub is_asked : ℕ → Wanted → Bool
is_asked classes (wants t) = is_result_type classes t
is_asked classes w = true

-- a value of this type is taken where one of a type is asked for. A tuple with an item None is typed though it does not fit, since
-- its place says what it is; it is not of any type that can be asked for
abbrev pub is_taken : List ClassEntry → Wanted → Sort → Bool
is_taken classes (wants t) s = fits classes s t
is_taken classes w s = true

-- what is well typed at a place: a truth value once it is changed to one; what stands alone need not give a value
abbrev pub is_good : TypedModule → List Variable → Option ℕ → Wanted → List ℕ → TypedExpr → Bool
is_good m locals init test known e = expr.is_test m locals init known (truth e)
is_good m locals init dropped known e = expr.is_typed m locals init known e
is_good m locals init w known e = expr.is_value m locals init known e

-- each name of the first row is in the second
abbrev pub Within : List ℕ → List ℕ → Type 0
Within names others = (x : ℕ) → is_in names x ≡ true → is_in others x ≡ true

-- ---- the laws

-- what a test tells as it is written, its typed form tells
abbrev pub TypedTellsAsMuch : Type 0
TypedTellsAsMuch =
    (c : Context) (vars : VarSorts) (w : Wanted) (known : List ℕ) (e : ExprTree) (t : TypedExpr) → (typing c vars w known e).got ≡ Some t → (outcome : Bool) → Within (facts c outcome e) (typed.facts outcome t)

-- what is typed is well typed, where its place takes it, whatever more is known of names than typing knew
abbrev pub TypedIsWellTyped : Type 0
TypedIsWellTyped =
    (c : Context) (vars : VarSorts) (m : TypedModule) (locals : List Variable) (init : Option ℕ) → Describes c vars m locals init
    → (w : Wanted) (known others : List ℕ) (e : ExprTree) (t : TypedExpr) → is_written e ≡ true → is_asked (length c.classes) w ≡ true → Within known others
    → (typing c vars w known e).got ≡ Some t → is_taken c.classes w (type_of t) ≡ true → is_good m locals init w others t ≡ true
