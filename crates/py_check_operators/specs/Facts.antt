-- What a test tells of a function's own names: those that are not None where it comes out true, or where it comes out false
-- (mypy's guide, "Union types": narrowing by `is None` and `is not None`).
--
-- What a test tells of a name is seen by its form alone, whatever its type. `x is not None` tells of x where it is true, and `x is None` where
-- it is false; `not` swaps; both operands of `and` are true where it is, and both of `or` are false where it is; else an
-- operand alone decides, and what both would tell is told.
use Rattle.std.specs.Prelude.{ℕ, Bool, true, false, not, ◌&&◌, List, [], ◌∷◌, ◌++◌, if◌then◌else◌}
use Rattle.py_syntax.specs.declared.expression.CmpOp.{CmpOp}
use Rattle.py_syntax.specs.declared.expression.CmpOp.TheVariants as compare
use Rattle.py_syntax.specs.Expressions as tree
use Rattle.py_syntax.specs.Expressions.{ExprTree, ExprNode, at, Comparisons, no_comparisons, comparison_then}
use Rattle.py_typed.specs.Narrowing.{shared}
use Rattle.py_check_context.specs.declared.scope.Meaning.{Meaning}
use Rattle.py_check_context.specs.declared.scope.Meaning.TheVariants as meaning
use Rattle.py_check_context.specs.Context.{Context}

abbrev pub local_of : Meaning → List ℕ
local_of (meaning.Local i) = i ∷ []
local_of m = []

-- whether a test with None that has this outcome says that its subject is not None
abbrev pub tells : CmpOp → Bool → Bool
tells compare.Is outcome = not outcome
tells compare.IsNot outcome = outcome
tells o outcome = false

abbrev pub is_none_tree : ExprTree → Bool
is_none_tree (at tree.Nothing span) = true
is_none_tree e = false

-- of two operands: what either tells where both are decided, else what both tell
abbrev pub joined_facts : Bool → List ℕ → List ℕ → List ℕ
joined_facts together xs ys = if together then xs ++ ys else shared xs ys

abbrev pub none_test : Bool → CmpOp → ExprTree → List ℕ → List ℕ
none_test outcome o e who = if is_none_tree e && tells o outcome then who else []

abbrev pub compared : Bool → List ℕ → Comparisons → List ℕ
compared outcome who (comparison_then o e no_comparisons) = none_test outcome o e who
compared outcome who cs = []

module _ (c : Context) where
  -- the local that is compared with None
  abbrev pub subject : ExprTree → List ℕ
  subject (at (tree.Name x) span) = local_of (c.meaning x)
  subject e = []

  abbrev mutual
    -- the locals that are not None where the test has this outcome
    pub facts : Bool → ExprTree → List ℕ
    facts outcome (at node span) = node_facts outcome node

    pub node_facts : Bool → ExprNode → List ℕ
    node_facts outcome (tree.Compare e cs) = compared outcome (subject e) cs
    node_facts outcome (tree.Not e) = facts (not outcome) e
    node_facts outcome (tree.And a b) = joined_facts outcome (facts outcome a) (facts outcome b)
    node_facts outcome (tree.Or a b) = joined_facts (not outcome) (facts outcome a) (facts outcome b)
    node_facts outcome node = []
