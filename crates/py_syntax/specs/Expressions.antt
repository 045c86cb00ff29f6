-- Expressions as plain data, and what a declared expression stands for.
-- Each has the parts of the declared one, in their order. A list of parts that lead back to expressions is data of its own.
use Rattle.std.specs.Prelude.{ℕ, ℤ, List, [], ◌∷◌, Option, Some, None}
use Rattle.py_syntax.specs.declared.token.Span.{Span}
use Rattle.py_syntax.specs.declared.expression.BinOp.{BinOp}
use Rattle.py_syntax.specs.declared.expression.CmpOp.{CmpOp}
use Rattle.py_syntax.specs.declared.expression.Expr.{Expr, fold-Expr}
use Rattle.py_syntax.specs.declared.expression.Arg.{Arg, fold-Arg}
use Rattle.py_syntax.specs.declared.expression.ExprKind.{ExprKind, fold-ExprKind}
use Rattle.py_syntax.specs.declared.expression.ExprKind.TheOpen.{ExprKind-F, Arg-F, Expr-F}

mutual
  -- an expression, with its place
  pub data ExprTree : Type 0 where
    at : ExprNode → Span → ExprTree

  pub data ExprNode : Type 0 where
    Int : ℤ → ExprNode
    Str : List ℕ → ExprNode
    True : ExprNode
    False : ExprNode
    Nothing : ExprNode
    Name : List ℕ → ExprNode
    Neg : ExprTree → ExprNode
    Plus : ExprTree → ExprNode
    Not : ExprTree → ExprNode
    Bin : BinOp → ExprTree → ExprTree → ExprNode
    Compare : ExprTree → Comparisons → ExprNode
    And : ExprTree → ExprTree → ExprNode
    Or : ExprTree → ExprTree → ExprNode
    Cond : ExprTree → ExprTree → ExprTree → ExprNode
    ListOf : ExprTrees → ExprNode
    DictOf : Entries → ExprNode
    TupleOf : ExprTrees → ExprNode
    Attr : ExprTree → List ℕ → ExprNode
    Index : ExprTree → ExprTree → ExprNode
    Call : ExprTree → Arguments → ExprNode

  -- expressions in a row
  pub data ExprTrees : Type 0 where
    no_exprs : ExprTrees
    expr_then : ExprTree → ExprTrees → ExprTrees

  -- the further operands of a chain of comparisons, each behind its operator
  pub data Comparisons : Type 0 where
    no_comparisons : Comparisons
    comparison_then : CmpOp → ExprTree → Comparisons → Comparisons

  -- keys with their values
  pub data Entries : Type 0 where
    no_entries : Entries
    entry_then : ExprTree → ExprTree → Entries → Entries

  -- arguments, alone or behind a key
  pub data Arguments : Type 0 where
    no_arguments : Arguments
    argument_then : ExprTree → Arguments → Arguments
    keyed_then : ExprTree → ExprTree → Arguments → Arguments

-- an argument, with its key if it has one
pub record ArgTree : Type 0 where
  pub key : Option ExprTree
  pub value : ExprTree

-- rows of parts made of lists
abbrev pub exprs_of : List ExprTree → ExprTrees
exprs_of [] = no_exprs
exprs_of (e ∷ es) = expr_then e (exprs_of es)

abbrev pub comparisons_of : List (CmpOp × ExprTree) → Comparisons
comparisons_of [] = no_comparisons
comparisons_of (c ∷ cs) = comparison_then c.0 c.1 (comparisons_of cs)

abbrev pub entries_of : List (ExprTree × ExprTree) → Entries
entries_of [] = no_entries
entries_of (e ∷ es) = entry_then e.0 e.1 (entries_of es)

abbrev pub with_key : Option ExprTree → ExprTree → Arguments → Arguments
with_key None value more = argument_then value more
with_key (Some key) value more = keyed_then key value more

abbrev pub arguments_of : List ArgTree → Arguments
arguments_of [] = no_arguments
arguments_of (a ∷ more) = with_key a.key a.value (arguments_of more)

-- one level of a declared expression, whose parts are trees already
abbrev pub node_step : ExprKind-F ExprNode ArgTree ExprTree → ExprNode
node_step (ExprKind-F.Int n) = Int n
node_step (ExprKind-F.Str text) = Str text
node_step ExprKind-F.True = True
node_step ExprKind-F.False = False
node_step ExprKind-F.Nothing = Nothing
node_step (ExprKind-F.Name name) = Name name
node_step (ExprKind-F.Neg e) = Neg e.value
node_step (ExprKind-F.Plus e) = Plus e.value
node_step (ExprKind-F.Not e) = Not e.value
node_step (ExprKind-F.Bin op a b) = Bin op a.value b.value
node_step (ExprKind-F.Compare e cs) = Compare e.value (comparisons_of cs)
node_step (ExprKind-F.And a b) = And a.value b.value
node_step (ExprKind-F.Or a b) = Or a.value b.value
node_step (ExprKind-F.Cond a test b) = Cond a.value test.value b.value
node_step (ExprKind-F.List es) = ListOf (exprs_of es)
node_step (ExprKind-F.Dict es) = DictOf (entries_of es)
node_step (ExprKind-F.Tuple es) = TupleOf (exprs_of es)
node_step (ExprKind-F.Attr e name) = Attr e.value name
node_step (ExprKind-F.Index e i) = Index e.value i.value
node_step (ExprKind-F.Call f more) = Call f.value (arguments_of more)

abbrev pub arg_step : Arg-F ExprNode ArgTree ExprTree → ArgTree
arg_step a = record { key = a.key; value = a.value }

abbrev pub expr_step : Expr-F ExprNode ArgTree ExprTree → ExprTree
expr_step e = at e.kind e.span

-- what a declared expression stands for
abbrev pub expr_tree : Expr → ExprTree
expr_tree = fold-Expr ExprNode ArgTree ExprTree node_step arg_step expr_step

abbrev pub expr_node : ExprKind → ExprNode
expr_node = fold-ExprKind ExprNode ArgTree ExprTree node_step arg_step expr_step

abbrev pub arg_tree : Arg → ArgTree
arg_tree = fold-Arg ExprNode ArgTree ExprTree node_step arg_step expr_step

abbrev pub comparison_tree : CmpOp × Expr → CmpOp × ExprTree
comparison_tree c = (c.0, expr_tree c.1)

abbrev pub entry_tree : Expr × Expr → ExprTree × ExprTree
entry_tree e = (expr_tree e.0, expr_tree e.1)
