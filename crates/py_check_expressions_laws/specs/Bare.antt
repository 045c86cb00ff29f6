-- Tests whose typed form tells of names exactly what they tell as they are written.
--
-- The sign `+`, `int` and `i64` give the value of their operand, so the typed form of `+e` may be that of e, or e with a coercion:
-- what that tells of names, the test as it is written does not. Of all other tests both forms tell the same.
use Rattle.std.specs.Prelude.{◌≡◌, ℕ, Bool, true, false, not, ◌&&◌, List, Some}
use Rattle.py_syntax.specs.Expressions as tree
use Rattle.py_syntax.specs.Expressions.{ExprTree, ExprNode, at, Comparisons, no_comparisons, comparison_then}
use Rattle.py_typed.specs.Expressions.{TypedExpr}
use Rattle.py_typed.specs.Narrowing as typed
use Rattle.py_check_context.specs.Context.{Context, VarSorts, Wanted}
use Rattle.py_check_operators.specs.Facts.{facts}
use Rattle.py_check_expressions.specs.Typing.{typing}
use Rattle.py_check_expressions_laws.specs.WellTyped.{Within}

-- `+e`, and calls
abbrev pub may_be_operand : ExprNode → Bool
may_be_operand (tree.Plus e) = true
may_be_operand (tree.Call f args) = true
may_be_operand n = false

abbrev pub is_itself : ExprTree → Bool
is_itself (at n span) = not (may_be_operand n)

abbrev pub are_themselves : Comparisons → Bool
are_themselves no_comparisons = true
are_themselves (comparison_then o e more) = is_itself e && are_themselves more

-- none of these is where a test tells something
abbrev mutual
  pub is_bare : ExprTree → Bool
  is_bare (at n span) = is_bare_node n

  pub is_bare_node : ExprNode → Bool
  is_bare_node (tree.Compare e cs) = is_itself e && are_themselves cs
  is_bare_node (tree.Not e) = is_bare e
  is_bare_node (tree.And a b) = is_bare a && is_bare b
  is_bare_node (tree.Or a b) = is_bare a && is_bare b
  is_bare_node n = not (may_be_operand n)

-- the typed form of such a test tells nothing that the test as it is written does not
abbrev pub TypedTellsNoMore : Type 0
TypedTellsNoMore =
    (c : Context) (vars : VarSorts) (w : Wanted) (known : List ℕ) (e : ExprTree) (t : TypedExpr) → is_bare e ≡ true → (typing c vars w known e).got ≡ Some t → (outcome : Bool) → Within (typed.facts outcome t) (facts c outcome e)
