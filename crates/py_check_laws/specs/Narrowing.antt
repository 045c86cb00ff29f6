-- WHAT IS KNOWN NOT TO BE NONE behind statements: the typed statements know no more than typing did.
--
-- That they know as much is said beside what is well typed (`TypedBlockIsWellTyped`). Both together hold the definitions of what
-- tests and bindings tell to each other, from either side. Two things are left out, where the typed statements may well know more: a
-- test that tells something of a name under a sign `+`, `int` or `i64`, of which the typed form may be that of the operand; and an
-- annotation without a value of a variable of the function's own, which is typed as `pass`, though what was known of its name is
-- forgotten.
use Rattle.std.specs.Prelude.{◌≡◌, ℕ, Bool, true, false, not, ◌&&◌, ◌||◌, List, ◌++◌, Option, Some, None, is_some}
use Rattle.py_syntax.specs.declared.token.Span.{Span}
use Rattle.py_syntax.specs.Expressions.{ExprTree}
use Rattle.py_syntax.specs.Statements as node
use Rattle.py_syntax.specs.Statements.{StmtTree, StmtNode, Suite, no_stmts, stmt_then, Arms, no_arms, arm_then, Handlers, no_handlers, handler_then, MaybeSuite, no_suite, some_suite}
use Rattle.py_typed.specs.Sorts.{Sort}
use Rattle.py_typed.specs.Expressions.{TypedExpr}
use Rattle.py_typed.specs.Statements.{Variable, TypedModule, TypedTarget, TypedStmt, suite_of}
use Rattle.py_typed.specs.Narrowing.{facts, without, bound_suite, after_suite}
use Rattle.py_typed.specs.WellTyped.{is_single, in_loop_from}
use Rattle.py_check_context.specs.declared.scope.Meaning.{Meaning}
use Rattle.py_check_context.specs.declared.scope.Meaning.TheVariants as meaning
use Rattle.py_check_context.specs.Context.{Context}
use Rattle.py_check_flow.specs.Bindings.{name_in}
use Rattle.py_check_values.specs.Returns.{ReturnSort}
use Rattle.py_check_places.specs.Places.{Known, where_test, entering}
use Rattle.py_check_loops.specs.Loops.{Course, course_items}
use Rattle.py_check_loops.specs.Heads.{for_head, in_for}
use Rattle.py_check_statements.specs.Bodies.{condition, around_loop, block, block_after}
use Rattle.py_check_statements.specs.declared.bodies.Around.{Around}
use Rattle.py_check_expressions_laws.specs.WellTyped.{is_written, Describes, Within}
use Rattle.py_check_expressions_laws.specs.Bare.{is_bare}
use Rattle.py_check_laws.specs.WellTyped.{is_suite_written, IsScope}

-- a variable of the function's own
abbrev pub is_own : Meaning → Bool
is_own (meaning.Local i) = true
is_own m = false

module _ (meanings : List ℕ → Meaning) where
  abbrev pub is_own_name : Option (List ℕ) → Bool
  is_own_name None = false
  is_own_name (Some x) = is_own (meanings x)

  -- statements with bare tests alone, and in which each annotation of a variable of the function's own has a value
  abbrev mutual
    pub is_bare_stmt : StmtTree → Bool
    is_bare_stmt (node.at n span) = is_bare_act n

    pub is_bare_act : StmtNode → Bool
    is_bare_act (node.Annot target mark e) = is_some e || not (is_own_name (name_in target))
    is_bare_act (node.If arms other) = are_bare_arms arms && is_bare_suite other
    is_bare_act (node.While e body) = is_bare e && is_bare_suite body
    is_bare_act (node.For target e body) = is_bare_suite body
    is_bare_act (node.Assert e text) = is_bare e
    is_bare_act (node.Try body handlers last) = is_bare_suite body && are_bare_handlers handlers && is_bare_last last
    is_bare_act n = true

    pub is_bare_suite : Suite → Bool
    is_bare_suite no_stmts = true
    is_bare_suite (stmt_then s more) = is_bare_stmt s && is_bare_suite more

    pub are_bare_arms : Arms → Bool
    are_bare_arms no_arms = true
    are_bare_arms (arm_then e body more) = is_bare e && is_bare_suite body && are_bare_arms more

    pub are_bare_handlers : Handlers → Bool
    are_bare_handlers no_handlers = true
    are_bare_handlers (handler_then e x body span more) = is_bare_suite body && are_bare_handlers more

    pub is_bare_last : MaybeSuite → Bool
    is_bare_last no_suite = true
    is_bare_last (some_suite body) = is_bare_suite body

-- of such statements that are typed: what is known behind them by their typed form, where no more is known in front of them than
-- typing knew, typing knows. In a function with these variables, of a module that the context describes where they end
abbrev pub TypedBlockKnowsNoMore : Type 0
TypedBlockKnowsNoMore =
    (c : Context) (ret : ReturnSort) (a : Around) (k : Known) (body : Suite) (m : TypedModule) (locals : List Variable) (init : Option ℕ) (result : Option Sort) → IsScope c k.types → Describes c (block_after c k body).types m locals init
    → is_suite_written body ≡ true → is_bare_suite c.meaning body ≡ true → (ts : List TypedStmt) → (block c ret a k body).got ≡ Some ts → (known : List ℕ) → Within known k.names
    → Within (after_suite (is_single m locals init result) known (suite_of ts)) (block_after c k body).names

-- ---- where bodies begin

-- the same behind a bare test, whichever way it comes out: where the body of an arm begins, and where the next test is asked
abbrev pub TestKnowsNoMore : Type 0
TestKnowsNoMore =
    (c : Context) (k : Known) (e : ExprTree) → is_bare e ≡ true → (test : TypedExpr) → (condition c k e).got ≡ Some test
    → (known : List ℕ) → Within known k.names → (outcome : Bool) → Within (facts outcome test ++ known) (where_test c k outcome e).names

-- where the body of a `while` begins, in which what it binds is forgotten
abbrev pub WhileBodyKnowsNoMore : Type 0
WhileBodyKnowsNoMore =
    (c : Context) (ret : ReturnSort) (a : Around) (k : Known) (span : Span) (e : ExprTree) (body : Suite) → is_bare e ≡ true → is_bare_suite c.meaning body ≡ true
    → (test : TypedExpr) → (condition c (entering c k (node.at (node.While e body) span)) e).got ≡ Some test
    → (ts : List TypedStmt) → (block c ret (around_loop a) (where_test c (entering c k (node.at (node.While e body) span)) true e) body).got ≡ Some ts
    → (known : List ℕ) → Within known k.names
    → Within (facts true test ++ without (bound_suite (suite_of ts)) known) (where_test c (entering c k (node.at (node.While e body) span)) true e).names

-- and that of a `for`, whose targets are bound to an item
abbrev pub ForBodyKnowsNoMore : Type 0
ForBodyKnowsNoMore =
    (c : Context) (ret : ReturnSort) (a : Around) (k : Known) (span : Span) (target e : ExprTree) (body : Suite) (m : TypedModule) (locals : List Variable) (init : Option ℕ) (result : Option Sort) → IsScope c k.types
    → Describes c (in_for c k (node.at (node.For target e body) span) span target e).types m locals init → is_written e ≡ true → is_bare_suite c.meaning body ≡ true
    → (targets : List TypedTarget) (over : Course) (item : Sort) → (for_head c k (node.at (node.For target e body) span) span target e).got ≡ Some (targets, over) → course_items over ≡ Some item
    → (ts : List TypedStmt) → (block c ret (around_loop a) (in_for c k (node.at (node.For target e body) span) span target e) body).got ≡ Some ts
    → (known : List ℕ) → Within known k.names
    → Within (in_loop_from m locals init result known targets item (suite_of ts)) (in_for c k (node.at (node.For target e body) span) span target e).names
