-- WHAT GIVES A VARIABLE ITS TYPE: its annotation, or else the first binding of its name in the text (PEP 484; Python Language
-- Reference, "Annotated assignment statements").
--
-- A statement that does not bind a name leaves its variable as it is; one that binds it gives it a type, or none for good; and what it
-- has then it keeps. So what is behind a text is what the first of its bindings gives.
use Rattle.std.specs.Prelude.{◌≡◌, ℕ, Bool, true, false, List, slice_get, Some, is_some}
use Rattle.std.specs.Option.{option_map}
use Rattle.py_syntax.specs.declared.token.Span.{Span}
use Rattle.py_syntax.specs.Expressions.{ExprTree}
use Rattle.py_syntax.specs.Statements as node
use Rattle.py_syntax.specs.Statements.{Suite, no_stmts, stmt_then}
use Rattle.py_binder.specs.Scope.{contains, module_scope}
use Rattle.py_typed.specs.Expressions.{type_of}
use Rattle.py_check_context.specs.declared.scope.Meaning.{Meaning}
use Rattle.py_check_context.specs.declared.scope.Meaning.TheVariants as meaning
use Rattle.py_check_context.specs.Context.{Context, VarSort, unset, VarSorts, var_at}
use Rattle.py_check_flow.specs.Bindings.{bound_names, name_in, suite_bindings}
use Rattle.py_check_annotations.specs.Annotations.{annotation}
use Rattle.py_check_names.specs.Meanings.{variables}
use Rattle.py_check_definitions.specs.Names.{module_meaning}
use Rattle.py_check_calls.specs.Callees.{is_variable}
use Rattle.py_check_places.specs.Places.{Known, first_type, is_unset}
use Rattle.py_check_assignments.specs.Assignments.{value_for, assigns}
use Rattle.py_check_statements.specs.Bodies.{block_after}
use Rattle.py_check_definitions.specs.Definitions.{Headed, headed_functions}
use Rattle.py_check_definitions.specs.Starts.{given_sort, first_mark}
use Rattle.py_check.specs.Module.{function_context, body_after, global_sorts, module_context}
use Rattle.py_check.specs.Fixed.{is_there}
use Rattle.py_check_laws.specs.WellTyped.{IsScope}

-- the type of a variable so far
abbrev pub sort_in : VarSorts → Meaning → VarSort
sort_in V (meaning.Local i) = var_at V.locals i
sort_in V (meaning.Global i) = var_at V.globals i
sort_in V m = unset

-- statements that bind a name
abbrev pub is_bound_in : Suite → List ℕ → Bool
is_bound_in body x = contains (bound_names (suite_bindings body)) x

-- ---- any statements

-- a variable that has a type, or has none for good, stays as it is
abbrev pub TypesStay : Type 0
TypesStay =
    (c : Context) (k : Known) (body : Suite) (x : List ℕ) → is_unset (sort_in k.types (c.meaning x)) ≡ false
    → sort_in (block_after c k body).types (c.meaning x) ≡ sort_in k.types (c.meaning x)

-- statements that do not bind a name leave its variable as it is
abbrev pub OnlyBindingsGiveTypes : Type 0
OnlyBindingsGiveTypes =
    (c : Context) (k : Known) (body : Suite) (x : List ℕ) → IsScope c k.types → is_bound_in body x ≡ false
    → sort_in (block_after c k body).types (c.meaning x) ≡ sort_in k.types (c.meaning x)

-- behind statements that bind the name of a variable it has a type, or has none for good
abbrev pub BindingsGiveTypes : Type 0
BindingsGiveTypes =
    (c : Context) (k : Known) (body : Suite) (x : List ℕ) → is_variable (c.meaning x) ≡ true → is_there k.types (c.meaning x) ≡ true → is_bound_in body x ≡ true
    → is_unset (sort_in (block_after c k body).types (c.meaning x)) ≡ false

-- statements in a row, and more behind them
abbrev pub joined : Suite → Suite → Suite
joined no_stmts more = more
joined (stmt_then s body) more = stmt_then s (joined body more)

-- a variable without a type that statements do not bind, and to whose name a value is assigned then, has the type of that value, or
-- none for good where the value has none or the assignment is refused; and so it is whatever stands behind
abbrev pub FirstAssignmentsGiveTypes : Type 0
FirstAssignmentsGiveTypes =
    (c : Context) (k : Known) (body more : Suite) (span : Span) (target e : ExprTree) (x : List ℕ) → IsScope c k.types → is_variable (c.meaning x) ≡ true → is_unset (sort_in k.types (c.meaning x)) ≡ true → is_bound_in body x ≡ false → name_in target ≡ Some x
    → sort_in (block_after c k (joined body (stmt_then (node.at (node.Assign target e) span) more))).types (c.meaning x) ≡ first_type (is_some (assigns c (block_after c k body) span target e).got) (option_map type_of (value_for c (block_after c k body) target e).got)

-- ---- the variables of a module

-- behind its own statements each of them has a type, or has none for good: no function is there before the first binding
abbrev pub ModuleFixesTypes : Type 0
ModuleFixesTypes =
    (m : Suite) (i : ℕ) (x : List ℕ) → slice_get (variables (module_scope m)) i ≡ Some x
    → is_unset (var_at (global_sorts (module_context m) (module_scope m) (headed_functions m) m) i) ≡ false

-- the body of a function changes none of their types
abbrev pub BodiesFixNothing : Type 0
BodiesFixNothing =
    (m : Suite) (f : Headed)
    → (body_after (function_context (module_context m) f) (module_context m).variables (global_sorts (module_context m) (module_scope m) (headed_functions m) m) f).types.globals ≡ global_sorts (module_context m) (module_scope m) (headed_functions m) m

-- one whose first binding is annotated has the type of that annotation, if it has one
abbrev pub AnnotationsGiveTypes : Type 0
AnnotationsGiveTypes =
    (m : Suite) (i : ℕ) (x : List ℕ) (mark : ExprTree) → slice_get (variables (module_scope m)) i ≡ Some x → first_mark (suite_bindings m) x ≡ Some (Some mark)
    → var_at (global_sorts (module_context m) (module_scope m) (headed_functions m) m) i ≡ given_sort (annotation (module_meaning m) mark).got
