-- The typing of statements, and what is known behind each (Python Language Reference, "Simple statements" and "Compound
-- statements"; PEP 484).
--
-- A statement has a typed form where all its parts have one and its own rule holds; what is wrong in a body silences nothing around
-- it. Code that no run comes to has the same rules. A `global` statement says nothing here: its names are the binder's. Imports,
-- definitions of functions and classes have no typed form, and what is wrong with them is not said here.
use Rattle.std.specs.Prelude.{ℕ, Bool, true, false, List, [], codes, Option, Some, None, if◌then◌else◌}
use Rattle.std.specs.Option.{option_map}
use Rattle.value_core.specs.declared.exception.ExcClass.{ExcClass}
use Rattle.py_syntax.specs.declared.token.Span.{Span}
use Rattle.py_syntax.specs.Expressions.{ExprTree}
use Rattle.py_syntax.specs.Statements as node
use Rattle.py_syntax.specs.Statements.{StmtTree, StmtNode, Suite, no_stmts, stmt_then, Arms, no_arms, arm_then, Handlers, no_handlers, handler_then, MaybeSuite, no_suite, some_suite}
use Rattle.py_typed.specs.Expressions.{TypedExpr}
use Rattle.py_typed.specs.Statements as act
use Rattle.py_typed.specs.Statements.{TypedStmt, TypedAct, TypedSuite, TypedTarget, HandlerParts, on_line, suite_of, arms_of}
use Rattle.py_check_context.specs.Context.{Context, Wanted, free, test, wants, dropped}
use Rattle.py_check_flow.specs.Bindings.{name_in}
use Rattle.py_check_flow.specs.Closed.{is_closed, breaks_suite}
use Rattle.py_check_messages.specs.Seen.{Seen, is, silent, fails, both, behind, made}
use Rattle.py_check_messages.specs.Rows.{row_then}
use Rattle.py_check_messages.specs.Messages.{outside_loop}
use Rattle.py_check_coercions.specs.Values.{truth}
use Rattle.py_check_coercions.specs.Several.{with_part}
use Rattle.py_check_values.specs.Returns.{ReturnSort, gives, bare_return, value_return}
use Rattle.py_check_places.specs.Places.{Known, with_names, where_test, entering, Way, setting_out, meeting, behind_arm}
use Rattle.py_check_targets.specs.Targets.{typed_at}
use Rattle.py_check_places.specs.Shapes.{bind_target}
use Rattle.py_check_assignments.specs.Assignments.{assigns, binds, annotates, binds_annotated, updates}
use Rattle.py_check_loops.specs.Loops.{loop_of}
use Rattle.py_check_loops.specs.Heads.{for_head, in_for}
use Rattle.py_check_exceptions.specs.Raises.{raises, asserts}
use Rattle.py_check_exceptions.specs.Handlers.{handler_head, in_handler}
use Rattle.py_check_statements.specs.Deletions.{deletes}
use Rattle.py_check_statements.specs.declared.bodies.Around.{Around}

-- without a typed form
abbrev pub is_definition : StmtTree → Bool
is_definition (node.at (node.Import m other) span) = true
is_definition (node.at (node.From m names) span) = true
is_definition (node.at (node.Def f params ret body marks) span) = true
is_definition (node.at (node.ClassDef x bases body marks) span) = true
is_definition s = false

-- behind a loop stands what stood where it was entered, and the types that its body fixed
abbrev pub behind_loop : List ℕ → Known → Known
behind_loop names end = with_names end names

-- only a loop is left and begun again
abbrev pub in_loop : Bool → Span → List ℕ → TypedAct → Seen TypedAct
in_loop true span word a = is a
in_loop false span word a = fails span (outside_loop word)

-- ---- what is around a statement: a loop or none, and an except clause or none, within its function

abbrev pub nothing_around : Around
nothing_around = record { looping = false; handling = false }

abbrev pub around_loop : Around → Around
around_loop a = record { looping = true; handling = a.handling }

abbrev pub around_clause : Around → Around
around_clause a = record { looping = a.looping; handling = true }

-- ---- `try`

-- no clause follows
abbrev pub is_last : Handlers → Bool
is_last no_handlers = true
is_last (handler_then e x body span more) = false

abbrev pub clause_of : (List ExcClass × Option TypedTarget) × List TypedStmt → HandlerParts
clause_of p = record { classes = p.0.0; name = p.0.1; body = suite_of p.1 }

abbrev pub present : List TypedStmt → Option (List TypedStmt)
present body = Some body

-- of the body, the clauses and the body of `finally`, if there is one
abbrev pub try_of : (List TypedStmt × List HandlerParts) × Option (List TypedStmt) → TypedAct
try_of p = act.Try (suite_of p.0.0) (act.handlers_of p.0.1) (act.maybe_suite (option_map suite_of p.1))

module _ (c : Context) where
  -- ---- tests and loops

  -- a test, as a truth value
  abbrev pub condition : Known → ExprTree → Seen TypedExpr
  condition k e = made truth (typed_at c k test e)

  -- behind a `while` its test is false, unless the loop was left before
  abbrev pub left_while : Known → ExprTree → Suite → List ℕ
  left_while entered e body = if breaks_suite body then entered.names else (where_test c entered false e).names

  abbrev pub behind_while : Known → ExprTree → Suite → Known → Known
  behind_while entered e body end = behind_loop (left_while entered e body) end

  -- the names that are known where a `try` binds none
  abbrev pub outside_try : Known → StmtTree → List ℕ
  outside_try k s = (entering c k s).names

  abbrev mutual
    -- WHAT IS KNOWN behind a statement
    pub after : Known → StmtTree → Known
    after k (node.at n span) = node_after k span n

    pub node_after : Known → Span → StmtNode → Known
    node_after k span (node.Assign target e) = binds c k span target e
    node_after k span (node.Annot target mark e) = binds_annotated c k span (name_in target) target mark e
    node_after k span (node.Aug target op e) = bind_target c false k target None
    node_after k span (node.If arms other) =
        meeting (arms_after (setting_out k) arms).ends (is_closed other) (block_after (arms_after (setting_out k) arms).at other)
    node_after k span (node.While e body) =
        behind_while (entering c k (node.at (node.While e body) span)) e body
        (block_after (where_test c (entering c k (node.at (node.While e body) span)) true e) body)
    node_after k span (node.For target e body) =
        behind_loop (entering c k (node.at (node.For target e body) span)).names
        (block_after (in_for c k (node.at (node.For target e body) span) span target e) body)
    node_after k span (node.Assert e text) = where_test c k true e
    -- each part of a `try` but the first begins without the names that the whole binds, and so does what follows
    node_after k span (node.Try body handlers last) =
        with_names
        (last_after (outside_try k (node.at (node.Try body handlers last) span))
        (handlers_after (outside_try k (node.at (node.Try body handlers last) span)) (block_after k body) handlers) last)
        (outside_try k (node.at (node.Try body handlers last) span))
    node_after k span n = k

    pub block_after : Known → Suite → Known
    block_after k no_stmts = k
    block_after k (stmt_then s more) = block_after (after k s) more

    pub arms_after : Way → Arms → Way
    arms_after w no_arms = w
    arms_after w (arm_then e body more) =
        arms_after (behind_arm c w e (is_closed body) (block_after (where_test c w.at true e) body)) more

    -- clauses that begin with these names each
    pub handlers_after : List ℕ → Known → Handlers → Known
    handlers_after names k no_handlers = k
    handlers_after names k (handler_then e x body span more) =
        handlers_after names (block_after (in_handler c (with_names k names) span e x (is_last more)) body) more

    pub last_after : List ℕ → Known → MaybeSuite → Known
    last_after names k no_suite = k
    last_after names k (some_suite body) = block_after (with_names k names) body

  -- behind a `try`, by the names that are known outside
  abbrev pub behind_try : Known → List ℕ → Suite → Handlers → MaybeSuite → Known
  behind_try k names body handlers last = with_names (last_after names (handlers_after names (block_after k body) handlers) last) names

-- what a `return` asks of its value
abbrev pub return_wanted : ReturnSort → Wanted
return_wanted (gives t) = wants t
return_wanted r = free

module _ (c : Context) (ret : ReturnSort) where
  abbrev pub returns : Known → Span → Option ExprTree → Seen TypedAct
  returns k span None = made (λ u. act.Return None) (bare_return span ret)
  returns k span (Some e) =
      made (λ v. act.Return (Some v)) (behind (typed_at c k (return_wanted ret) e) (λ p. with_part p (value_return c.classes span ret)))

  abbrev mutual
    -- A TYPED STATEMENT, by what is around it
    pub statement : Around → Known → StmtTree → Seen TypedStmt
    statement a k (node.at n span) = made (λ s. on_line s span.line) (node_statement a k span n)

    pub node_statement : Around → Known → Span → StmtNode → Seen TypedAct
    node_statement a k span (node.Do e) = made act.Do (typed_at c k dropped e)
    node_statement a k span (node.Assign target e) = assigns c k span target e
    node_statement a k span (node.Annot target mark e) = annotates c k span (name_in target) target mark e
    node_statement a k span (node.Aug target op e) = updates c k span target op e
    node_statement a k span (node.Return e) = returns k span e
    node_statement a k span (node.Raise e) = raises c a.handling k span e
    node_statement a k span (node.Assert e text) = asserts c k span e text
    node_statement a k span node.Pass = is act.Pass
    node_statement a k span (node.Global names) = is act.Pass
    node_statement a k span node.Break = in_loop a.looping span (codes "break") act.Break
    node_statement a k span node.Continue = in_loop a.looping span (codes "continue") act.Continue
    node_statement a k span (node.If arms other) =
        made (λ p. act.If (arms_of p.0) (suite_of p.1))
        (both (branches a (setting_out k) arms) (block a (arms_after c (setting_out k) arms).at other))
    node_statement a k span (node.While e body) =
        made (λ p. act.While p.0 (suite_of p.1))
        (both (condition c (entering c k (node.at (node.While e body) span)) e)
        (block (around_loop a) (where_test c (entering c k (node.at (node.While e body) span)) true e) body))
    node_statement a k span (node.For target e body) =
        made (λ p. loop_of p.0.0 p.0.1 (suite_of p.1))
        (both (for_head c k (node.at (node.For target e body) span) span target e)
        (block (around_loop a) (in_for c k (node.at (node.For target e body) span) span target e) body))
    node_statement a k span (node.Try body handlers last) =
        made try_of
        (both
        (both (block a k body) (clauses a (outside_try c k (node.at (node.Try body handlers last) span)) (block_after c k body) handlers))
        (maybe_block a (outside_try c k (node.at (node.Try body handlers last) span))
        (handlers_after c (outside_try c k (node.at (node.Try body handlers last) span)) (block_after c k body) handlers) last))
    node_statement a k span (node.Del e) = deletes c k span e
    -- definitions, which no row asks for: it passes over them
    node_statement a k span n = silent

    -- TYPED STATEMENTS in a row
    pub block : Around → Known → Suite → Seen (List TypedStmt)
    block a k no_stmts = is []
    block a k (stmt_then s more) =
        if is_definition s then block a k more else row_then (statement a k s) (block a (after c k s) more)

    pub branches : Around → Way → Arms → Seen (List (TypedExpr × TypedSuite))
    branches a w no_arms = is []
    branches a w (arm_then e body more) =
        row_then (made (λ p. (p.0, suite_of p.1)) (both (condition c w.at e) (block a (where_test c w.at true e) body)))
        (branches a (behind_arm c w e (is_closed body) (block_after c (where_test c w.at true e) body)) more)

    -- except clauses that begin with these names each
    pub clauses : Around → List ℕ → Known → Handlers → Seen (List HandlerParts)
    clauses a names k no_handlers = is []
    clauses a names k (handler_then e x body span more) =
        row_then
        (made clause_of
        (both (handler_head c (with_names k names) span e x (is_last more))
        (block (around_clause a) (in_handler c (with_names k names) span e x (is_last more)) body)))
        (clauses a names (block_after c (in_handler c (with_names k names) span e x (is_last more)) body) more)

    -- the body of `finally`, if there is one
    pub maybe_block : Around → List ℕ → Known → MaybeSuite → Seen (Option (List TypedStmt))
    maybe_block a names k no_suite = is None
    maybe_block a names k (some_suite body) = made present (block a (with_names k names) body)

  -- a test, and a body that runs where it holds
  abbrev pub guarded : Around → Known → ExprTree → Suite → Seen (TypedExpr × List TypedStmt)
  guarded a k e body = both (condition c k e) (block a (where_test c k true e) body)

  -- a `try`, by the names that are known outside
  abbrev pub tries : Around → Known → List ℕ → Suite → Handlers → MaybeSuite → Seen TypedAct
  tries a k names body handlers last =
      made try_of
      (both (both (block a k body) (clauses a names (block_after c k body) handlers)) (maybe_block a names (handlers_after c names (block_after c k body) handlers) last))

  -- an except clause
  abbrev pub clause : Around → Known → Span → Option ExprTree → Option (List ℕ) → Bool → Suite → Seen ((List ExcClass × Option TypedTarget) × List TypedStmt)
  clause a k span e x last body = both (handler_head c k span e x last) (block (around_clause a) (in_handler c k span e x last) body)
