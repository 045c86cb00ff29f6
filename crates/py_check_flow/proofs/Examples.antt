-- Statements that are closed, and some that are not; and what statements bind.
use Rattle.std.proofs.Common.{◌≡◌, true, false, [], ◌∷◌, Some, None, refl, codes}
use Rattle.py_syntax.specs.declared.token.Span.{Span}
use Rattle.py_syntax.specs.declared.expression.BinOp.TheVariants.{Add}
use Rattle.py_syntax.specs.Expressions as e
use Rattle.py_syntax.specs.Expressions.{ExprTree}
use Rattle.py_syntax.specs.Statements.{StmtTree, StmtNode, at, Assign, Annot, Aug, Pass, Break, Return, Raise, If, While, For, Try, suite_of, arm_then, no_arms, handler_then, no_handlers, no_suite, some_suite}
use Rattle.py_check_flow.specs.Closed.{is_closed, breaks_suite}
use Rattle.py_check_flow.specs.Bindings.{suite_bindings, bound_names}

abbrev place : Span
place = record { line = 1; col = 1 }

abbrev on : StmtNode → StmtTree
on node = at node place

abbrev name : ExprTree
name = e.at (e.Name (codes "x")) place

abbrev yes_literal : ExprTree
yes_literal = e.at e.True place

behind_return : is_closed (suite_of (on (Return None) ∷ on Pass ∷ [])) ≡ true
behind_return = refl

-- `if x: return`, without and with `else: raise`
if_alone : is_closed (suite_of (on (If (arm_then name (suite_of (on (Return None) ∷ [])) no_arms) (suite_of [])) ∷ [])) ≡ false
if_alone = refl

if_else : is_closed (suite_of (on (If (arm_then name (suite_of (on (Return None) ∷ [])) no_arms) (suite_of (on (Raise None) ∷ []))) ∷ [])) ≡ true
if_else = refl

-- `while True: pass`, `while x: pass`, and `while True` with a break in an `if`
endless : is_closed (suite_of (on (While yes_literal (suite_of (on Pass ∷ []))) ∷ [])) ≡ true
endless = refl

by_a_name : is_closed (suite_of (on (While name (suite_of (on Pass ∷ []))) ∷ [])) ≡ false
by_a_name = refl

left_by_break : is_closed (suite_of (on (While yes_literal (suite_of (on (If (arm_then name (suite_of (on Break ∷ [])) no_arms) (suite_of [])) ∷ []))) ∷ [])) ≡ false
left_by_break = refl

-- a break belongs to the innermost loop
inner_break : is_closed (suite_of (on (While yes_literal (suite_of (on (For name name (suite_of (on Break ∷ []))) ∷ []))) ∷ [])) ≡ true
inner_break = refl

-- a body that returns with a handler that does not, and with a `finally` that does
open_handler : is_closed (suite_of (on (Try (suite_of (on (Return None) ∷ [])) (handler_then None None (suite_of (on Pass ∷ [])) place no_handlers) no_suite) ∷ [])) ≡ false
open_handler = refl

closed_finally : is_closed (suite_of (on (Try (suite_of (on Pass ∷ [])) (handler_then None None (suite_of (on Pass ∷ [])) place no_handlers) (some_suite (suite_of (on (Return None) ∷ [])))) ∷ [])) ≡ true
closed_finally = refl

break_in_finally : breaks_suite (suite_of (on (Try (suite_of []) no_handlers (some_suite (suite_of (on Break ∷ [])))) ∷ [])) ≡ true
break_in_finally = refl

abbrev called : ExprTree
called = e.at (e.Name (codes "a")) place

-- `x: a`, `(x, [a]) = x` and `x.a += x`
marked : suite_bindings (suite_of (on (Annot name called None) ∷ [])) ≡ record { name = codes "x"; mark = Some called } ∷ []
marked = refl

nested : bound_names (suite_bindings (suite_of (on (Assign (e.at (e.TupleOf (e.exprs_of (name ∷ e.at (e.ListOf (e.exprs_of (called ∷ []))) place ∷ []))) place) name) ∷ []))) ≡ codes "x" ∷ codes "a" ∷ []
nested = refl

attribute : suite_bindings (suite_of (on (Aug (e.at (e.Attr name (codes "a")) place) Add name) ∷ [])) ≡ []
attribute = refl

-- a loop with its body, and a handler's name in front of its body
loop : bound_names (suite_bindings (suite_of (on (For name called (suite_of (on (Assign called name) ∷ []))) ∷ []))) ≡ codes "x" ∷ codes "a" ∷ []
loop = refl

handler : bound_names (suite_bindings (suite_of (on (Try (suite_of (on (Assign called name) ∷ [])) (handler_then None (Some (codes "x")) (suite_of (on (Assign called name) ∷ [])) place no_handlers) no_suite) ∷ []))) ≡ codes "a" ∷ codes "x" ∷ codes "a" ∷ []
handler = refl
