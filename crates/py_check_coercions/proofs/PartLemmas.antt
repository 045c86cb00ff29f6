-- A typed expression by its parts, and rows of parts that are seen one by one.
use Rattle.std.proofs.Common.{◌≡◌, ℕ, ap, sym, ◌∙◌}
use Rattle.std.proofs.lemmas.List.{map-append}
use Rattle.py_typed.specs.declared.expression.TExpr.{TExpr, fold_out-TExpr}
use Rattle.py_typed.specs.declared.expression.TKind.{TKind, fold-roll-TKind, roll-TKind}
use Rattle.py_typed.specs.declared.expression.TKind as kind
use Rattle.py_typed.specs.declared.expression.TKind.TheVariants as variant
use Rattle.py_typed.specs.declared.expression.TKind.TheOpen.{TKind-F}
use Rattle.py_typed.specs.Sorts.{sort}
use Rattle.py_typed.specs.Expressions as node
use Rattle.py_typed.specs.Expressions.{TypedExpr, TypedNode, typed_expr, typed_node, node_step, expr_step, typed, type_of}

pub ruleset rows = (map-append)

pub expr_at : (e : TExpr) → typed_expr e ≡ typed (typed_node e.kind) (sort e.ty) e.span
expr_at e = fold_out-TExpr TypedNode TypedExpr node_step expr_step e

pub type_at : (e : TExpr) → type_of (typed_expr e) ≡ sort e.ty
type_at e = ap type_of (expr_at e)

pub typed_node-Local : (i : ℕ) → typed_node (kind.Local i) ≡ node.Local i
typed_node-Local i = ap typed_node (sym (variant.rolls-Local i)) ∙ fold-roll-TKind TypedNode TypedExpr node_step expr_step (TKind-F.Local i)

pub typed_node-Global : (i : ℕ) → typed_node (kind.Global i) ≡ node.Global i
typed_node-Global i = ap typed_node (sym (variant.rolls-Global i)) ∙ fold-roll-TKind TypedNode TypedExpr node_step expr_step (TKind-F.Global i)
