-- What each kind of declared expression stands for.
use Rattle.std.proofs.Common.{◌≡◌, ℕ, ℤ, List, map, Option, Some, None, refl, ap, sym, ◌∙◌}
use Rattle.std.specs.declared.boxed.Box.{Box}
use Rattle.std.specs.declared.alloc.Global.{Global}
use Rattle.std.specs.Option.{option_map}
use Rattle.py_syntax.specs.declared.expression.BinOp.{BinOp}
use Rattle.py_syntax.specs.declared.expression.CmpOp.{CmpOp}
use Rattle.py_syntax.specs.declared.expression.Expr.{Expr, fold_out-Expr}
use Rattle.py_syntax.specs.declared.expression.Arg.{Arg, out-Arg, fold_out-Arg}
use Rattle.py_syntax.specs.declared.expression.ExprKind.{ExprKind, fold-ExprKind, fold-roll-ExprKind, roll-ExprKind}
use Rattle.py_syntax.specs.declared.expression.ExprKind as kind
use Rattle.py_syntax.specs.declared.expression.ExprKind.TheVariants as variant
use Rattle.py_syntax.specs.declared.expression.ExprKind.TheOpen.{ExprKind-F}
use Rattle.py_syntax.specs.declared.expression.ExprKind.TheShapes.{former-Arg-key}
use Rattle.py_syntax.specs.Expressions as tree
use Rattle.py_syntax.specs.Expressions.{ExprTree, ExprNode, ArgTree, ExprTrees, Comparisons, Entries, Arguments, no_exprs, expr_then, no_comparisons, comparison_then, no_entries, entry_then, no_arguments, argument_then, keyed_then, at, exprs_of, comparisons_of, entries_of, arguments_of, with_key, node_step, arg_step, expr_step, expr_tree, expr_node, arg_tree, comparison_tree, entry_tree}

-- an expression in a box
abbrev Part : Type 0
Part = Box Expr Global

-- an expression by its kind and its place
pub expr_tree_at : (e : Expr) → expr_tree e ≡ at (expr_node e.kind) e.span
expr_tree_at e = fold_out-Expr ExprNode ArgTree ExprTree node_step arg_step expr_step e

keyed : (o : Option Expr) → former-Arg-key.map Expr ExprTree expr_tree o ≡ option_map expr_tree o
keyed None = refl
keyed (Some e) = refl

pub arg_tree_at : (a : Arg) → arg_tree a ≡ record { key = option_map expr_tree (out-Arg a).key; value = expr_tree (out-Arg a).value }
arg_tree_at a = fold_out-Arg ExprNode ArgTree ExprTree node_step arg_step expr_step a ∙ ap (λ k. record { key = k; value = expr_tree (out-Arg a).value }) (keyed (out-Arg a).key)

rolled : (k : ExprKind-F ExprKind Arg Expr) (made : ExprKind) → roll-ExprKind k ≡ made → expr_node made ≡ node_step (kind.map-ExprKind ExprKind Arg Expr ExprNode ArgTree ExprTree expr_node arg_tree expr_tree k)
rolled k made is = ap expr_node (sym is) ∙ fold-roll-ExprKind ExprNode ArgTree ExprTree node_step arg_step expr_step k

pub expr_node-Int : (n : ℤ) → expr_node (kind.Int n) ≡ tree.Int n
expr_node-Int n = rolled (ExprKind-F.Int n) (kind.Int n) (variant.rolls-Int n)

pub expr_node-Str : (text : List ℕ) → expr_node (kind.Str text) ≡ tree.Str text
expr_node-Str text = rolled (ExprKind-F.Str text) (kind.Str text) (variant.rolls-Str text)

pub expr_node-True : expr_node kind.True ≡ tree.True
expr_node-True = rolled ExprKind-F.True kind.True variant.rolls-True

pub expr_node-False : expr_node kind.False ≡ tree.False
expr_node-False = rolled ExprKind-F.False kind.False variant.rolls-False

pub expr_node-Nothing : expr_node kind.Nothing ≡ tree.Nothing
expr_node-Nothing = rolled ExprKind-F.Nothing kind.Nothing variant.rolls-Nothing

pub expr_node-Name : (name : List ℕ) → expr_node (kind.Name name) ≡ tree.Name name
expr_node-Name name = rolled (ExprKind-F.Name name) (kind.Name name) (variant.rolls-Name name)

pub expr_node-Neg : (e : Part) → expr_node (kind.Neg e) ≡ tree.Neg (expr_tree e.value)
expr_node-Neg e = rolled (ExprKind-F.Neg e) (kind.Neg e) (variant.rolls-Neg e)

pub expr_node-Plus : (e : Part) → expr_node (kind.Plus e) ≡ tree.Plus (expr_tree e.value)
expr_node-Plus e = rolled (ExprKind-F.Plus e) (kind.Plus e) (variant.rolls-Plus e)

pub expr_node-Not : (e : Part) → expr_node (kind.Not e) ≡ tree.Not (expr_tree e.value)
expr_node-Not e = rolled (ExprKind-F.Not e) (kind.Not e) (variant.rolls-Not e)

pub expr_node-Bin : (op : BinOp) (a b : Part) → expr_node (kind.Bin op a b) ≡ tree.Bin op (expr_tree a.value) (expr_tree b.value)
expr_node-Bin op a b = rolled (ExprKind-F.Bin op a b) (kind.Bin op a b) (variant.rolls-Bin op a b)

pub expr_node-Compare : (e : Part) (cs : List (CmpOp × Expr)) → expr_node (kind.Compare e cs) ≡ tree.Compare (expr_tree e.value) (comparisons_of (map comparison_tree cs))
expr_node-Compare e cs = rolled (ExprKind-F.Compare e cs) (kind.Compare e cs) (variant.rolls-Compare e cs)

pub expr_node-And : (a b : Part) → expr_node (kind.And a b) ≡ tree.And (expr_tree a.value) (expr_tree b.value)
expr_node-And a b = rolled (ExprKind-F.And a b) (kind.And a b) (variant.rolls-And a b)

pub expr_node-Or : (a b : Part) → expr_node (kind.Or a b) ≡ tree.Or (expr_tree a.value) (expr_tree b.value)
expr_node-Or a b = rolled (ExprKind-F.Or a b) (kind.Or a b) (variant.rolls-Or a b)

pub expr_node-Cond : (a test b : Part) → expr_node (kind.Cond a test b) ≡ tree.Cond (expr_tree a.value) (expr_tree test.value) (expr_tree b.value)
expr_node-Cond a test b = rolled (ExprKind-F.Cond a test b) (kind.Cond a test b) (variant.rolls-Cond a test b)

pub expr_node-List : (es : List Expr) → expr_node (kind.List es) ≡ tree.ListOf (exprs_of (map expr_tree es))
expr_node-List es = rolled (ExprKind-F.List es) (kind.List es) (variant.rolls-List es)

pub expr_node-Dict : (es : List (Expr × Expr)) → expr_node (kind.Dict es) ≡ tree.DictOf (entries_of (map entry_tree es))
expr_node-Dict es = rolled (ExprKind-F.Dict es) (kind.Dict es) (variant.rolls-Dict es)

pub expr_node-Tuple : (es : List Expr) → expr_node (kind.Tuple es) ≡ tree.TupleOf (exprs_of (map expr_tree es))
expr_node-Tuple es = rolled (ExprKind-F.Tuple es) (kind.Tuple es) (variant.rolls-Tuple es)

pub expr_node-Attr : (e : Part) (name : List ℕ) → expr_node (kind.Attr e name) ≡ tree.Attr (expr_tree e.value) name
expr_node-Attr e name = rolled (ExprKind-F.Attr e name) (kind.Attr e name) (variant.rolls-Attr e name)

pub expr_node-Index : (e i : Part) → expr_node (kind.Index e i) ≡ tree.Index (expr_tree e.value) (expr_tree i.value)
expr_node-Index e i = rolled (ExprKind-F.Index e i) (kind.Index e i) (variant.rolls-Index e i)

pub expr_node-Call : (f : Part) (more : List Arg) → expr_node (kind.Call f more) ≡ tree.Call (expr_tree f.value) (arguments_of (map arg_tree more))
expr_node-Call f more = rolled (ExprKind-F.Call f more) (kind.Call f more) (variant.rolls-Call f more)

pub ruleset expr_nodes = (
  expr_node-Int,
  expr_node-Str,
  expr_node-True,
  expr_node-False,
  expr_node-Nothing,
  expr_node-Name,
  expr_node-Neg,
  expr_node-Plus,
  expr_node-Not,
  expr_node-Bin,
  expr_node-Compare,
  expr_node-And,
  expr_node-Or,
  expr_node-Cond,
  expr_node-List,
  expr_node-Dict,
  expr_node-Tuple,
  expr_node-Attr,
  expr_node-Index,
  expr_node-Call,
)
