-- When statements that are typed are well typed: what is asked of the text, of the names of a function, and of what it returns.
use Rattle.std.specs.Prelude.{◌≡◌, ℕ, Bool, true, false, ◌&&◌, nat_lt, List, length, Option, Some, None}
use Rattle.std.specs.List.{list_all}
use Rattle.py_syntax.specs.Expressions.{ExprTree}
use Rattle.py_syntax.specs.Statements as node
use Rattle.py_syntax.specs.Statements.{StmtTree, StmtNode, Suite, no_stmts, stmt_then, Arms, no_arms, arm_then, Handlers, no_handlers, handler_then, MaybeSuite, no_suite, some_suite}
use Rattle.py_typed.specs.Sorts.{Sort}
use Rattle.py_typed.specs.WellTypedExpr.{is_result_type}
use Rattle.py_check_context.specs.declared.scope.Meaning.TheVariants as meaning
use Rattle.py_check_context.specs.Context.{Context, VarSorts}
use Rattle.py_check_calls.specs.Callees.{is_variable}
use Rattle.py_check_values.specs.Returns.{ReturnSort, gives}
use Rattle.py_check_places.specs.Shapes.{leaves}
use Rattle.py_check_expressions_laws.specs.WellTyped.{is_written}

-- ---- statements that a text can write

abbrev pub is_filled : Suite → Bool
is_filled no_stmts = false
is_filled (stmt_then s more) = true

abbrev pub has_test : Arms → Bool
has_test no_arms = false
has_test (arm_then e body more) = true

abbrev pub has_clause : Handlers → MaybeSuite → Bool
has_clause no_handlers no_suite = false
has_clause _ _ = true

abbrev pub maybe_written : Option ExprTree → Bool
maybe_written None = true
maybe_written (Some e) = is_written e

abbrev pub are_targets : List ExprTree → Bool
are_targets es = list_all is_written es

-- a loop, a function, an arm of an `if` and each part of a `try` have a body, an `if` has a test, and a `try` an except clause or a
-- `finally`. Of the head of a clause nothing is asked, since it is no value
abbrev mutual
  pub is_stmt_written : StmtTree → Bool
  is_stmt_written (node.at n span) = is_act_written n

  pub is_act_written : StmtNode → Bool
  is_act_written (node.Do e) = is_written e
  is_act_written (node.Assign target e) = are_targets (leaves target) && is_written e
  is_act_written (node.Annot target mark e) = maybe_written e
  is_act_written (node.Aug target op e) = is_written target && is_written e
  is_act_written (node.Del e) = is_written e
  is_act_written (node.Return e) = maybe_written e
  is_act_written (node.If arms other) = has_test arms && are_arms_written arms && is_suite_written other
  is_act_written (node.While e body) = is_written e && is_filled body && is_suite_written body
  is_act_written (node.For target e body) = is_written e && is_filled body && is_suite_written body
  is_act_written (node.Raise e) = maybe_written e
  is_act_written (node.Assert e text) = is_written e && maybe_written text
  is_act_written (node.Try body handlers last) =
      has_clause handlers last && is_filled body && is_suite_written body && are_handlers_written handlers && is_last_written last
  is_act_written n = true

  pub is_suite_written : Suite → Bool
  is_suite_written no_stmts = true
  is_suite_written (stmt_then s more) = is_stmt_written s && is_suite_written more

  pub are_arms_written : Arms → Bool
  are_arms_written no_arms = true
  are_arms_written (arm_then e body more) = is_written e && is_filled body && is_suite_written body && are_arms_written more

  pub are_handlers_written : Handlers → Bool
  are_handlers_written no_handlers = true
  are_handlers_written (handler_then e x body span more) = is_filled body && is_suite_written body && are_handlers_written more

  pub is_last_written : MaybeSuite → Bool
  is_last_written no_suite = true
  is_last_written (some_suite body) = is_filled body && is_suite_written body

-- ---- names

-- the variables that names mean are there, and no two names mean one variable
pub record IsScope (c : Context) (vars : VarSorts) : Type 0 where
  pub locals_there : (x : List ℕ) (i : ℕ) → c.meaning x ≡ meaning.Local i → nat_lt i (length vars.locals) ≡ true
  pub globals_there : (x : List ℕ) (i : ℕ) → c.meaning x ≡ meaning.Global i → nat_lt i (length vars.globals) ≡ true
  pub differ : (x y : List ℕ) → is_variable (c.meaning x) ≡ true → c.meaning x ≡ c.meaning y → x ≡ y

-- ---- what is returned

-- a function gives what its statements return; at module level nothing is returned
abbrev pub IsResult : ℕ → ReturnSort → Option Sort → Type 0
IsResult classes (gives t) result = (result ≡ Some t) × (is_result_type classes t ≡ true)
IsResult classes r result = Unit {0}
