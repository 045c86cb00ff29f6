-- What a comparison tells, which is not seen through by computing.
use Rattle.std.proofs.Common.{◌≡◌, ◌≤◌, ℕ, List, [], ◌∷◌, Bool, length, map, ap, refl, arith}
use Rattle.std.specs.declared.boxed.Box.{Box}
use Rattle.std.specs.declared.alloc.Global.{Global}
use Rattle.py_syntax.specs.declared.expression.CmpOp.{CmpOp}
use Rattle.py_syntax.specs.declared.expression.Expr.{Expr}
use Rattle.py_syntax.specs.declared.expression.ExprKind as node
use Rattle.py_syntax.specs.Expressions as tree
use Rattle.py_syntax.specs.Expressions.{at, expr_tree, expr_node, comparison_tree, comparisons_of}
use Rattle.py_syntax.proofs.ExpressionLemmas.{expr_tree_at, expr_node-Compare}
use Rattle.std.proofs.Common.{◌∙◌}
use Rattle.py_check_context.specs.Context.{Context}
use Rattle.py_check_operators.specs.Facts.{facts, subject, compared}

pub tree_of : (e : Expr) (k : node.ExprKind) (n : tree.ExprNode) → e.kind ≡ k → expr_node k ≡ n → expr_tree e ≡ at n e.span
tree_of e k n is means = expr_tree_at e ∙ ap (λ x. at x e.span) (ap expr_node is ∙ means)

pub facts_compare : (c : Context) (outcome : Bool) (e : Expr) (first : Box Expr Global) (cs : List (CmpOp × Expr)) → e.kind ≡ node.Compare first cs → facts c outcome (expr_tree e) ≡ compared outcome (subject c (expr_tree first.value)) (comparisons_of (map comparison_tree cs))
facts_compare c outcome e first cs is = ap (facts c outcome) (tree_of e _ _ is (expr_node-Compare first cs))

pub more_than_one : (outcome : Bool) (who : List ℕ) (cs : List (CmpOp × Expr)) → 2 ≤ length cs → compared outcome who (comparisons_of (map comparison_tree cs)) ≡ []
more_than_one outcome who [] h = refl
more_than_one outcome who (a ∷ []) h = absurd (omega arith)
more_than_one outcome who (a ∷ b ∷ cs) h = refl
