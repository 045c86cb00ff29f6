-- Typed expressions as plain data, and what a declared one stands for.
-- Each has the parts of the declared one, in their order. A list of parts that lead back to expressions is data of its own.
use Rattle.std.specs.Prelude.{ℕ, ℤ, Bool, List, [], ◌∷◌, Option, Some, None}
use Rattle.std.specs.Option.{option_map}
use Rattle.value_core.specs.declared.exception.ExcClass.{ExcClass}
use Rattle.py_syntax.specs.declared.token.Span.{Span}
use Rattle.py_syntax.specs.declared.expression.BinOp.{BinOp}
use Rattle.py_syntax.specs.declared.expression.CmpOp.{CmpOp}
use Rattle.py_typed.specs.declared.expression.TExpr.{TExpr, fold-TExpr}
use Rattle.py_typed.specs.declared.expression.TKind.{TKind, fold-TKind}
use Rattle.py_typed.specs.declared.expression.TKind.TheOpen.{TExpr-F, TKind-F}
use Rattle.py_typed.specs.Sorts.{Sort, sort}

mutual
  -- an expression, with its type and its place
  pub data TypedExpr : Type 0 where
    typed : TypedNode → Sort → Span → TypedExpr

  pub data TypedNode : Type 0 where
    Int : ℤ → TypedNode
    Str : List ℕ → TypedNode
    Flag : Bool → TypedNode
    Nothing : TypedNode
    Local : ℕ → TypedNode
    Global : ℕ → TypedNode
    Neg : TypedExpr → TypedNode
    Not : TypedExpr → TypedNode
    Truth : TypedExpr → TypedNode
    Arith : BinOp → TypedExpr → TypedExpr → TypedNode
    Concat : TypedExpr → TypedExpr → TypedNode
    Compare : TypedExpr → Comparisons → TypedNode
    And : TypedExpr → TypedExpr → TypedNode
    Or : TypedExpr → TypedExpr → TypedNode
    -- what it is where the test holds, the test, and what it is else
    Cond : TypedExpr → TypedExpr → TypedExpr → TypedNode
    ListOf : TypedExprs → TypedNode
    DictOf : Entries → TypedNode
    TupleOf : TypedExprs → TypedNode
    Attr : TypedExpr → List ℕ → TypedNode
    At : TypedExpr → TypedExpr → TypedNode
    TupleAt : TypedExpr → ℕ → TypedNode
    Call : ℕ → TypedExprs → TypedNode
    Make : ℕ → TypedExprs → TypedNode
    MakeExc : ExcClass → MaybeExpr → TypedNode
    Method : TypedExpr → List ℕ → TypedExprs → TypedNode
    SuperInit : Option ℕ → TypedExprs → TypedNode
    Print : TypedExprs → TypedNode
    Input : TypedNode
    Len : TypedExpr → TypedNode
    ToStr : TypedExpr → TypedNode
    Append : TypedExpr → TypedExpr → TypedNode
    Pop : TypedExpr → TypedNode
    Coerce : TypedExpr → TypedNode

  -- expressions in a row
  pub data TypedExprs : Type 0 where
    no_exprs : TypedExprs
    expr_then : TypedExpr → TypedExprs → TypedExprs

  -- the further operands of a chain of comparisons, each behind its operator
  pub data Comparisons : Type 0 where
    no_comparisons : Comparisons
    comparison_then : CmpOp → TypedExpr → Comparisons → Comparisons

  -- keys with their values
  pub data Entries : Type 0 where
    no_entries : Entries
    entry_then : TypedExpr → TypedExpr → Entries → Entries

  pub data MaybeExpr : Type 0 where
    no_expr : MaybeExpr
    some_expr : TypedExpr → MaybeExpr

-- the type of an expression
abbrev pub type_of : TypedExpr → Sort
type_of (typed e t place) = t

-- rows of parts made of lists
abbrev pub exprs_of : List TypedExpr → TypedExprs
exprs_of [] = no_exprs
exprs_of (e ∷ es) = expr_then e (exprs_of es)

abbrev pub comparisons_of : List (CmpOp × TypedExpr) → Comparisons
comparisons_of [] = no_comparisons
comparisons_of (c ∷ cs) = comparison_then c.0 c.1 (comparisons_of cs)

abbrev pub entries_of : List (TypedExpr × TypedExpr) → Entries
entries_of [] = no_entries
entries_of (e ∷ es) = entry_then e.0 e.1 (entries_of es)

abbrev pub maybe_expr : Option TypedExpr → MaybeExpr
maybe_expr None = no_expr
maybe_expr (Some e) = some_expr e

-- one level of a declared expression, whose parts are seen already
abbrev pub node_step : TKind-F TypedNode TypedExpr → TypedNode
node_step (TKind-F.Int n) = Int n
node_step (TKind-F.Str text) = Str text
node_step (TKind-F.Bool b) = Flag b
node_step TKind-F.Nothing = Nothing
node_step (TKind-F.Local i) = Local i
node_step (TKind-F.Global i) = Global i
node_step (TKind-F.Neg e) = Neg e.value
node_step (TKind-F.Not e) = Not e.value
node_step (TKind-F.Truth e) = Truth e.value
node_step (TKind-F.Arith op a b) = Arith op a.value b.value
node_step (TKind-F.Concat a b) = Concat a.value b.value
node_step (TKind-F.Compare e cs) = Compare e.value (comparisons_of cs)
node_step (TKind-F.And a b) = And a.value b.value
node_step (TKind-F.Or a b) = Or a.value b.value
node_step (TKind-F.Cond a test b) = Cond a.value test.value b.value
node_step (TKind-F.List es) = ListOf (exprs_of es)
node_step (TKind-F.Dict es) = DictOf (entries_of es)
node_step (TKind-F.Tuple es) = TupleOf (exprs_of es)
node_step (TKind-F.Attr e name) = Attr e.value name
node_step (TKind-F.At e i) = At e.value i.value
node_step (TKind-F.TupleAt e i) = TupleAt e.value i
node_step (TKind-F.Call f es) = Call f (exprs_of es)
node_step (TKind-F.Make c es) = Make c (exprs_of es)
node_step (TKind-F.MakeExc c e) = MakeExc c (maybe_expr (option_map (λ b. b.value) e))
node_step (TKind-F.Method e name es) = Method e.value name (exprs_of es)
node_step (TKind-F.SuperInit f es) = SuperInit f (exprs_of es)
node_step (TKind-F.Print es) = Print (exprs_of es)
node_step TKind-F.Input = Input
node_step (TKind-F.Len e) = Len e.value
node_step (TKind-F.ToStr e) = ToStr e.value
node_step (TKind-F.Append a b) = Append a.value b.value
node_step (TKind-F.Pop e) = Pop e.value
node_step (TKind-F.Coerce e) = Coerce e.value

abbrev pub expr_step : TExpr-F TypedNode TypedExpr → TypedExpr
expr_step e = typed e.kind (sort e.ty) e.span

-- what a declared typed expression stands for
abbrev pub typed_expr : TExpr → TypedExpr
typed_expr = fold-TExpr TypedNode TypedExpr node_step expr_step

abbrev pub typed_node : TKind → TypedNode
typed_node = fold-TKind TypedNode TypedExpr node_step expr_step

abbrev pub typed_comparison : CmpOp × TExpr → CmpOp × TypedExpr
typed_comparison c = (c.0, typed_expr c.1)

abbrev pub typed_entry : TExpr × TExpr → TypedExpr × TypedExpr
typed_entry e = (typed_expr e.0, typed_expr e.1)
