-- Where an expression stands.
use Rattle.std.proofs.Common.{◌≡◌, ap, sym}
use Rattle.py_syntax.specs.declared.expression.Expr.{Expr}
use Rattle.py_syntax.specs.Expressions.{expr_tree}
use Rattle.py_syntax.proofs.ExpressionLemmas.{expr_tree_at}
use Rattle.py_check_exceptions.specs.Raises.{span_of}

pub span_seen : (e : Expr) → e.span ≡ span_of (expr_tree e)
span_seen e = sym (ap span_of (expr_tree_at e))
