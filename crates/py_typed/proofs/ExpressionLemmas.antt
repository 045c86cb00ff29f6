-- What each kind of declared typed expression stands for.
use Rattle.std.proofs.Common.{◌≡◌, ℕ, ℤ, Bool, List, map, Option, Some, None, refl, ap, sym, ◌∙◌}
use Rattle.std.specs.declared.boxed.Box.{Box}
use Rattle.std.specs.declared.alloc.Global.{Global}
use Rattle.std.specs.Option.{option_map}
use Rattle.value_core.specs.declared.exception.ExcClass.{ExcClass}
use Rattle.py_syntax.specs.declared.expression.BinOp.{BinOp}
use Rattle.py_syntax.specs.declared.expression.CmpOp.{CmpOp}
use Rattle.py_typed.specs.declared.expression.TExpr.{TExpr, fold_out-TExpr}
use Rattle.py_typed.specs.declared.expression.TKind.{TKind, fold-roll-TKind, roll-TKind}
use Rattle.py_typed.specs.declared.expression.TKind as kind
use Rattle.py_typed.specs.declared.expression.TKind.TheVariants as variant
use Rattle.py_typed.specs.declared.expression.TKind.TheOpen.{TKind-F}
use Rattle.py_typed.specs.Sorts.{sort}
use Rattle.py_typed.specs.Expressions as tree
use Rattle.py_typed.specs.Expressions.{TypedExpr, TypedNode, typed, type_of, exprs_of, comparisons_of, entries_of, maybe_expr, node_step, expr_step, typed_expr, typed_node, typed_comparison, typed_entry}

-- an expression in a box
abbrev Part : Type 0
Part = Box TExpr Global

-- an expression by its kind, its type and its place
pub typed_expr_at : (e : TExpr) → typed_expr e ≡ typed (typed_node e.kind) (sort e.ty) e.span
typed_expr_at e = fold_out-TExpr TypedNode TypedExpr node_step expr_step e

pub type_at : (e : TExpr) → type_of (typed_expr e) ≡ sort e.ty
type_at e = ap type_of (typed_expr_at e)

-- the same where the kind is known
pub typed_expr_of : (e : TExpr) (k : TKind) → e.kind ≡ k → typed_expr e ≡ typed (typed_node k) (sort e.ty) e.span
typed_expr_of e k is = typed_expr_at e ∙ ap (λ n. typed (typed_node n) (sort e.ty) e.span) is

rolled : (k : TKind-F TKind TExpr) (made : TKind) → roll-TKind k ≡ made → typed_node made ≡ node_step (kind.map-TKind TKind TExpr TypedNode TypedExpr typed_node typed_expr k)
rolled k made is = ap typed_node (sym is) ∙ fold-roll-TKind TypedNode TypedExpr node_step expr_step k

text_made : (c : ExcClass) (e : Option (Box TExpr Global)) → node_step (kind.map-TKind TKind TExpr TypedNode TypedExpr typed_node typed_expr (TKind-F.MakeExc c e)) ≡ tree.MakeExc c (maybe_expr (option_map (λ b. typed_expr b.value) e))
text_made c None = refl
text_made c (Some e) = refl

pub typed_node-Int : (n : ℤ) → typed_node (kind.Int n) ≡ tree.Int n
typed_node-Int n = rolled (TKind-F.Int n) (kind.Int n) (variant.rolls-Int n)

pub typed_node-Str : (text : List ℕ) → typed_node (kind.Str text) ≡ tree.Str text
typed_node-Str text = rolled (TKind-F.Str text) (kind.Str text) (variant.rolls-Str text)

pub typed_node-Bool : (b : Bool) → typed_node (kind.Bool b) ≡ tree.Flag b
typed_node-Bool b = rolled (TKind-F.Bool b) (kind.Bool b) (variant.rolls-Bool b)

pub typed_node-Nothing : typed_node kind.Nothing ≡ tree.Nothing
typed_node-Nothing = rolled TKind-F.Nothing kind.Nothing variant.rolls-Nothing

pub typed_node-Local : (i : ℕ) → typed_node (kind.Local i) ≡ tree.Local i
typed_node-Local i = rolled (TKind-F.Local i) (kind.Local i) (variant.rolls-Local i)

pub typed_node-Global : (i : ℕ) → typed_node (kind.Global i) ≡ tree.Global i
typed_node-Global i = rolled (TKind-F.Global i) (kind.Global i) (variant.rolls-Global i)

pub typed_node-Neg : (e : Part) → typed_node (kind.Neg e) ≡ tree.Neg (typed_expr e.value)
typed_node-Neg e = rolled (TKind-F.Neg e) (kind.Neg e) (variant.rolls-Neg e)

pub typed_node-Not : (e : Part) → typed_node (kind.Not e) ≡ tree.Not (typed_expr e.value)
typed_node-Not e = rolled (TKind-F.Not e) (kind.Not e) (variant.rolls-Not e)

pub typed_node-Truth : (e : Part) → typed_node (kind.Truth e) ≡ tree.Truth (typed_expr e.value)
typed_node-Truth e = rolled (TKind-F.Truth e) (kind.Truth e) (variant.rolls-Truth e)

pub typed_node-Arith : (op : BinOp) (a b : Part) → typed_node (kind.Arith op a b) ≡ tree.Arith op (typed_expr a.value) (typed_expr b.value)
typed_node-Arith op a b = rolled (TKind-F.Arith op a b) (kind.Arith op a b) (variant.rolls-Arith op a b)

pub typed_node-Concat : (a b : Part) → typed_node (kind.Concat a b) ≡ tree.Concat (typed_expr a.value) (typed_expr b.value)
typed_node-Concat a b = rolled (TKind-F.Concat a b) (kind.Concat a b) (variant.rolls-Concat a b)

pub typed_node-Compare : (e : Part) (cs : List (CmpOp × TExpr)) → typed_node (kind.Compare e cs) ≡ tree.Compare (typed_expr e.value) (comparisons_of (map typed_comparison cs))
typed_node-Compare e cs = rolled (TKind-F.Compare e cs) (kind.Compare e cs) (variant.rolls-Compare e cs)

pub typed_node-And : (a b : Part) → typed_node (kind.And a b) ≡ tree.And (typed_expr a.value) (typed_expr b.value)
typed_node-And a b = rolled (TKind-F.And a b) (kind.And a b) (variant.rolls-And a b)

pub typed_node-Or : (a b : Part) → typed_node (kind.Or a b) ≡ tree.Or (typed_expr a.value) (typed_expr b.value)
typed_node-Or a b = rolled (TKind-F.Or a b) (kind.Or a b) (variant.rolls-Or a b)

pub typed_node-Cond : (a test b : Part) → typed_node (kind.Cond a test b) ≡ tree.Cond (typed_expr a.value) (typed_expr test.value) (typed_expr b.value)
typed_node-Cond a test b = rolled (TKind-F.Cond a test b) (kind.Cond a test b) (variant.rolls-Cond a test b)

pub typed_node-List : (es : List TExpr) → typed_node (kind.List es) ≡ tree.ListOf (exprs_of (map typed_expr es))
typed_node-List es = rolled (TKind-F.List es) (kind.List es) (variant.rolls-List es)

pub typed_node-Dict : (es : List (TExpr × TExpr)) → typed_node (kind.Dict es) ≡ tree.DictOf (entries_of (map typed_entry es))
typed_node-Dict es = rolled (TKind-F.Dict es) (kind.Dict es) (variant.rolls-Dict es)

pub typed_node-Tuple : (es : List TExpr) → typed_node (kind.Tuple es) ≡ tree.TupleOf (exprs_of (map typed_expr es))
typed_node-Tuple es = rolled (TKind-F.Tuple es) (kind.Tuple es) (variant.rolls-Tuple es)

pub typed_node-Attr : (e : Part) (name : List ℕ) → typed_node (kind.Attr e name) ≡ tree.Attr (typed_expr e.value) name
typed_node-Attr e name = rolled (TKind-F.Attr e name) (kind.Attr e name) (variant.rolls-Attr e name)

pub typed_node-At : (e i : Part) → typed_node (kind.At e i) ≡ tree.At (typed_expr e.value) (typed_expr i.value)
typed_node-At e i = rolled (TKind-F.At e i) (kind.At e i) (variant.rolls-At e i)

pub typed_node-TupleAt : (e : Part) (i : ℕ) → typed_node (kind.TupleAt e i) ≡ tree.TupleAt (typed_expr e.value) i
typed_node-TupleAt e i = rolled (TKind-F.TupleAt e i) (kind.TupleAt e i) (variant.rolls-TupleAt e i)

pub typed_node-Call : (f : ℕ) (es : List TExpr) → typed_node (kind.Call f es) ≡ tree.Call f (exprs_of (map typed_expr es))
typed_node-Call f es = rolled (TKind-F.Call f es) (kind.Call f es) (variant.rolls-Call f es)

pub typed_node-Make : (c : ℕ) (es : List TExpr) → typed_node (kind.Make c es) ≡ tree.Make c (exprs_of (map typed_expr es))
typed_node-Make c es = rolled (TKind-F.Make c es) (kind.Make c es) (variant.rolls-Make c es)

pub typed_node-MakeExc : (c : ExcClass) (e : Option (Box TExpr Global)) → typed_node (kind.MakeExc c e) ≡ tree.MakeExc c (maybe_expr (option_map (λ b. typed_expr b.value) e))
typed_node-MakeExc c e = rolled (TKind-F.MakeExc c e) (kind.MakeExc c e) (variant.rolls-MakeExc c e) ∙ text_made c e

pub typed_node-Method : (e : Part) (name : List ℕ) (es : List TExpr) → typed_node (kind.Method e name es) ≡ tree.Method (typed_expr e.value) name (exprs_of (map typed_expr es))
typed_node-Method e name es = rolled (TKind-F.Method e name es) (kind.Method e name es) (variant.rolls-Method e name es)

pub typed_node-SuperInit : (f : Option ℕ) (es : List TExpr) → typed_node (kind.SuperInit f es) ≡ tree.SuperInit f (exprs_of (map typed_expr es))
typed_node-SuperInit f es = rolled (TKind-F.SuperInit f es) (kind.SuperInit f es) (variant.rolls-SuperInit f es)

pub typed_node-Print : (es : List TExpr) → typed_node (kind.Print es) ≡ tree.Print (exprs_of (map typed_expr es))
typed_node-Print es = rolled (TKind-F.Print es) (kind.Print es) (variant.rolls-Print es)

pub typed_node-Input : typed_node kind.Input ≡ tree.Input
typed_node-Input = rolled TKind-F.Input kind.Input variant.rolls-Input

pub typed_node-Len : (e : Part) → typed_node (kind.Len e) ≡ tree.Len (typed_expr e.value)
typed_node-Len e = rolled (TKind-F.Len e) (kind.Len e) (variant.rolls-Len e)

pub typed_node-ToStr : (e : Part) → typed_node (kind.ToStr e) ≡ tree.ToStr (typed_expr e.value)
typed_node-ToStr e = rolled (TKind-F.ToStr e) (kind.ToStr e) (variant.rolls-ToStr e)

pub typed_node-Append : (a b : Part) → typed_node (kind.Append a b) ≡ tree.Append (typed_expr a.value) (typed_expr b.value)
typed_node-Append a b = rolled (TKind-F.Append a b) (kind.Append a b) (variant.rolls-Append a b)

pub typed_node-Pop : (e : Part) → typed_node (kind.Pop e) ≡ tree.Pop (typed_expr e.value)
typed_node-Pop e = rolled (TKind-F.Pop e) (kind.Pop e) (variant.rolls-Pop e)

pub typed_node-Coerce : (e : Part) → typed_node (kind.Coerce e) ≡ tree.Coerce (typed_expr e.value)
typed_node-Coerce e = rolled (TKind-F.Coerce e) (kind.Coerce e) (variant.rolls-Coerce e)

-- an expression with parts in pairs, which are not seen through by computing
pub typed_expr-Compare : (e : TExpr) (a : Part) (cs : List (CmpOp × TExpr)) → e.kind ≡ kind.Compare a cs → typed_expr e ≡ typed (tree.Compare (typed_expr a.value) (comparisons_of (map typed_comparison cs))) (sort e.ty) e.span
typed_expr-Compare e a cs is = typed_expr_of e (kind.Compare a cs) is ∙ ap (λ n. typed n (sort e.ty) e.span) (typed_node-Compare a cs)

pub typed_expr-Dict : (e : TExpr) (es : List (TExpr × TExpr)) → e.kind ≡ kind.Dict es → typed_expr e ≡ typed (tree.DictOf (entries_of (map typed_entry es))) (sort e.ty) e.span
typed_expr-Dict e es is = typed_expr_of e (kind.Dict es) is ∙ ap (λ n. typed n (sort e.ty) e.span) (typed_node-Dict es)

-- an exception with a text, and one without
pub typed_node-MakeExc_text : (c : ExcClass) (e : Part) → typed_node (kind.MakeExc c (Some e)) ≡ tree.MakeExc c (tree.some_expr (typed_expr e.value))
typed_node-MakeExc_text c e = typed_node-MakeExc c (Some e)

pub typed_node-MakeExc_empty : (c : ExcClass) → typed_node (kind.MakeExc c None) ≡ tree.MakeExc c tree.no_expr
typed_node-MakeExc_empty c = typed_node-MakeExc c None

pub ruleset typed_nodes = (
  typed_node-Int,
  typed_node-Str,
  typed_node-Bool,
  typed_node-Nothing,
  typed_node-Local,
  typed_node-Global,
  typed_node-Neg,
  typed_node-Not,
  typed_node-Truth,
  typed_node-Arith,
  typed_node-Concat,
  typed_node-Compare,
  typed_node-And,
  typed_node-Or,
  typed_node-Cond,
  typed_node-List,
  typed_node-Dict,
  typed_node-Tuple,
  typed_node-Attr,
  typed_node-At,
  typed_node-TupleAt,
  typed_node-Call,
  typed_node-Make,
  typed_node-MakeExc_text,
  typed_node-MakeExc_empty,
  typed_node-MakeExc,
  typed_node-Method,
  typed_node-SuperInit,
  typed_node-Print,
  typed_node-Input,
  typed_node-Len,
  typed_node-ToStr,
  typed_node-Append,
  typed_node-Pop,
  typed_node-Coerce,
)
