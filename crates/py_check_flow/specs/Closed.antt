-- Lists of statements whose end no run comes to, by what stands in them alone (Python Language Reference, "Compound statements").
--
-- No run comes to the end of a list in which some statement is closed. Closed are `return`, `raise`, `break` and `continue`;
-- an `if` with `else` whose bodies all are; `while True` that no `break` of its own leaves; and a `try` whose body and handlers all
-- are, or whose `finally` is.
use Rattle.std.specs.Prelude.{Bool, true, false, not, ◌&&◌, ◌||◌}
use Rattle.py_syntax.specs.Expressions as e
use Rattle.py_syntax.specs.Expressions.{ExprTree}
use Rattle.py_syntax.specs.Statements.{StmtTree, at, StmtNode, Break, Continue, Return, Raise, If, While, Try, Suite, no_stmts, stmt_then, Arms, no_arms, arm_then, Handlers, no_handlers, handler_then, MaybeSuite, no_suite, some_suite}

-- a break of the loop that holds the statements
abbrev mutual
  pub breaks : StmtTree → Bool
  breaks (at node span) = breaks_in node

  pub breaks_in : StmtNode → Bool
  breaks_in Break = true
  breaks_in (If arms other) = breaks_arms arms || breaks_suite other
  breaks_in (Try body handlers last) = (breaks_suite body || breaks_handlers handlers) || breaks_last last
  breaks_in node = false

  pub breaks_suite : Suite → Bool
  breaks_suite no_stmts = false
  breaks_suite (stmt_then s more) = breaks s || breaks_suite more

  pub breaks_arms : Arms → Bool
  breaks_arms no_arms = false
  breaks_arms (arm_then test body more) = breaks_suite body || breaks_arms more

  pub breaks_handlers : Handlers → Bool
  breaks_handlers no_handlers = false
  breaks_handlers (handler_then class name body span more) = breaks_suite body || breaks_handlers more

  pub breaks_last : MaybeSuite → Bool
  breaks_last no_suite = false
  breaks_last (some_suite body) = breaks_suite body

abbrev pub is_true : ExprTree → Bool
is_true (e.at e.True span) = true
is_true _ = false

-- `while` with this test and body
abbrev pub loops_on : ExprTree → Suite → Bool
loops_on test body = is_true test && not (breaks_suite body)

abbrev mutual
  pub closes : StmtTree → Bool
  closes (at node span) = closes_in node

  pub closes_in : StmtNode → Bool
  closes_in Break = true
  closes_in Continue = true
  closes_in (Return a) = true
  closes_in (Raise a) = true
  closes_in (If arms other) = closed_arms arms && is_closed other
  closes_in (While test body) = loops_on test body
  closes_in (Try body handlers last) = (is_closed body && closed_handlers handlers) || closed_last last
  closes_in node = false

  -- WHETHER statements are closed
  pub is_closed : Suite → Bool
  is_closed no_stmts = false
  is_closed (stmt_then s more) = closes s || is_closed more

  pub closed_arms : Arms → Bool
  closed_arms no_arms = true
  closed_arms (arm_then test body more) = is_closed body && closed_arms more

  pub closed_handlers : Handlers → Bool
  closed_handlers no_handlers = true
  closed_handlers (handler_then class name body span more) = is_closed body && closed_handlers more

  pub closed_last : MaybeSuite → Bool
  closed_last no_suite = false
  closed_last (some_suite body) = is_closed body
