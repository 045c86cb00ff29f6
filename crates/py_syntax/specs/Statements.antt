-- Statements as plain data, and what a declared statement stands for.
-- Each has the parts of the declared one, in their order. A list of parts that lead back to statements is data of its own.
use Rattle.std.specs.Prelude.{ℕ, List, [], ◌∷◌, map, Option, Some, None}
use Rattle.std.specs.Option.{option_map}
use Rattle.py_syntax.specs.declared.token.Span.{Span}
use Rattle.py_syntax.specs.declared.expression.BinOp.{BinOp}
use Rattle.py_syntax.specs.declared.expression.Expr.{Expr}
use Rattle.py_syntax.specs.declared.statement.Stmt.{Stmt, fold-Stmt}
use Rattle.py_syntax.specs.declared.statement.StmtKind.{StmtKind, fold-StmtKind}
use Rattle.py_syntax.specs.declared.statement.Handler.{Handler, fold-Handler}
use Rattle.py_syntax.specs.declared.statement.Func.{Func, fold-Func}
use Rattle.py_syntax.specs.declared.statement.Class.{Class, fold-Class}
use Rattle.py_syntax.specs.declared.statement.Module.{Module}
use Rattle.py_syntax.specs.declared.statement.StmtKind.TheOpen.{StmtKind-F, Class-F, Func-F, Handler-F, Stmt-F}
use Rattle.py_syntax.specs.Expressions.{ExprTree, expr_tree}

mutual
  -- a statement, with its place
  pub data StmtTree : Type 0 where
    at : StmtNode → Span → StmtTree

  pub data StmtNode : Type 0 where
    Do : ExprTree → StmtNode
    Assign : ExprTree → ExprTree → StmtNode
    Annot : ExprTree → ExprTree → Option ExprTree → StmtNode
    Aug : ExprTree → BinOp → ExprTree → StmtNode
    Del : ExprTree → StmtNode
    Pass : StmtNode
    Break : StmtNode
    Continue : StmtNode
    Return : Option ExprTree → StmtNode
    Raise : Option ExprTree → StmtNode
    Global : List (List ℕ) → StmtNode
    Assert : ExprTree → Option ExprTree → StmtNode
    Import : List ℕ → Option (List ℕ) → StmtNode
    From : List ℕ → List (List ℕ × Option (List ℕ)) → StmtNode
    If : Arms → Suite → StmtNode
    While : ExprTree → Suite → StmtNode
    For : ExprTree → ExprTree → Suite → StmtNode
    Try : Suite → Handlers → MaybeSuite → StmtNode
    -- its name, parameters, result, body and decorators
    Def : List ℕ → List (List ℕ × Option ExprTree) → Option ExprTree → Suite → List ExprTree → StmtNode
    -- its name, bases, body and decorators
    ClassDef : List ℕ → List ExprTree → Suite → List ExprTree → StmtNode

  -- statements in a row
  pub data Suite : Type 0 where
    no_stmts : Suite
    stmt_then : StmtTree → Suite → Suite

  -- tests, each with its body
  pub data Arms : Type 0 where
    no_arms : Arms
    arm_then : ExprTree → Suite → Arms → Arms

  -- handlers, each with its class, name, body and place
  pub data Handlers : Type 0 where
    no_handlers : Handlers
    handler_then : Option ExprTree → Option (List ℕ) → Suite → Span → Handlers → Handlers

  pub data MaybeSuite : Type 0 where
    no_suite : MaybeSuite
    some_suite : Suite → MaybeSuite

-- the parts of a handler, a function and a class, by name
pub record HandlerTree : Type 0 where
  pub class : Option ExprTree
  pub name : Option (List ℕ)
  pub body : Suite
  pub span : Span

pub record FuncTree : Type 0 where
  pub name : List ℕ
  pub params : List (List ℕ × Option ExprTree)
  pub ret : Option ExprTree
  pub body : Suite
  pub marks : List ExprTree

pub record ClassTree : Type 0 where
  pub name : List ℕ
  pub bases : List ExprTree
  pub body : Suite
  pub marks : List ExprTree

-- rows of parts made of lists
abbrev pub suite_of : List StmtTree → Suite
suite_of [] = no_stmts
suite_of (s ∷ ss) = stmt_then s (suite_of ss)

abbrev pub arms_of : List (ExprTree × Suite) → Arms
arms_of [] = no_arms
arms_of (a ∷ more) = arm_then a.0 a.1 (arms_of more)

abbrev pub handlers_of : List HandlerTree → Handlers
handlers_of [] = no_handlers
handlers_of (h ∷ more) = handler_then h.class h.name h.body h.span (handlers_of more)

abbrev pub maybe_suite : Option Suite → MaybeSuite
maybe_suite None = no_suite
maybe_suite (Some body) = some_suite body

-- statements in a row as a list
abbrev pub listed_suite : Suite → List StmtTree
listed_suite no_stmts = []
listed_suite (stmt_then s more) = s ∷ listed_suite more

-- a function or a class as the statement that defines it
abbrev pub def_of : FuncTree → StmtNode
def_of f = Def f.name f.params f.ret f.body f.marks

abbrev pub class_def_of : ClassTree → StmtNode
class_def_of c = ClassDef c.name c.bases c.body c.marks

abbrev pub maybe_expr : Option Expr → Option ExprTree
maybe_expr = option_map expr_tree

-- a test with its body, and a parameter with its annotation
abbrev pub arm_step : Expr × List StmtTree → ExprTree × Suite
arm_step a = (expr_tree a.0, suite_of a.1)

abbrev pub param_tree : List ℕ × Option Expr → List ℕ × Option ExprTree
param_tree p = (p.0, maybe_expr p.1)

-- one level of a declared statement, whose parts are trees already
abbrev pub node_step : StmtKind-F StmtNode ClassTree FuncTree HandlerTree StmtTree → StmtNode
node_step (StmtKind-F.Expr e) = Do (expr_tree e)
node_step (StmtKind-F.Assign t e) = Assign (expr_tree t) (expr_tree e)
node_step (StmtKind-F.Annot t a e) = Annot (expr_tree t) (expr_tree a) (maybe_expr e)
node_step (StmtKind-F.Aug t op e) = Aug (expr_tree t) op (expr_tree e)
node_step (StmtKind-F.Del e) = Del (expr_tree e)
node_step StmtKind-F.Pass = Pass
node_step StmtKind-F.Break = Break
node_step StmtKind-F.Continue = Continue
node_step (StmtKind-F.Return e) = Return (maybe_expr e)
node_step (StmtKind-F.Raise e) = Raise (maybe_expr e)
node_step (StmtKind-F.Global names) = Global names
node_step (StmtKind-F.Assert e message) = Assert (expr_tree e) (maybe_expr message)
node_step (StmtKind-F.Import name other) = Import name other
node_step (StmtKind-F.From name names) = From name names
node_step (StmtKind-F.If arms other) = If (arms_of (map arm_step arms)) (suite_of other)
node_step (StmtKind-F.While e body) = While (expr_tree e) (suite_of body)
node_step (StmtKind-F.For t e body) = For (expr_tree t) (expr_tree e) (suite_of body)
node_step (StmtKind-F.Try body handlers last) =
    Try (suite_of body) (handlers_of handlers) (maybe_suite (option_map suite_of last))
node_step (StmtKind-F.Def f) = def_of f
node_step (StmtKind-F.Class c) = class_def_of c

abbrev pub class_step : Class-F StmtNode ClassTree FuncTree HandlerTree StmtTree → ClassTree
class_step c = record {
  name = c.name;
  bases = map expr_tree c.bases;
  body = suite_of c.body;
  marks = map expr_tree c.marks;
}

abbrev pub func_step : Func-F StmtNode ClassTree FuncTree HandlerTree StmtTree → FuncTree
func_step f = record {
  name = f.name;
  params = map param_tree f.params;
  ret = maybe_expr f.ret;
  body = suite_of f.body;
  marks = map expr_tree f.marks;
}

abbrev pub handler_step : Handler-F StmtNode ClassTree FuncTree HandlerTree StmtTree → HandlerTree
handler_step h = record { class = maybe_expr h.class; name = h.name; body = suite_of h.body; span = h.span }

abbrev pub stmt_step : Stmt-F StmtNode ClassTree FuncTree HandlerTree StmtTree → StmtTree
stmt_step s = at s.kind s.span

-- what a declared statement stands for
abbrev pub stmt_tree : Stmt → StmtTree
stmt_tree = fold-Stmt StmtNode ClassTree FuncTree HandlerTree StmtTree node_step class_step func_step handler_step stmt_step

abbrev pub stmt_node : StmtKind → StmtNode
stmt_node = fold-StmtKind StmtNode ClassTree FuncTree HandlerTree StmtTree node_step class_step func_step handler_step stmt_step

abbrev pub handler_tree : Handler → HandlerTree
handler_tree = fold-Handler StmtNode ClassTree FuncTree HandlerTree StmtTree node_step class_step func_step handler_step stmt_step

abbrev pub func_tree : Func → FuncTree
func_tree = fold-Func StmtNode ClassTree FuncTree HandlerTree StmtTree node_step class_step func_step handler_step stmt_step

abbrev pub class_tree : Class → ClassTree
class_tree = fold-Class StmtNode ClassTree FuncTree HandlerTree StmtTree node_step class_step func_step handler_step stmt_step

-- the statements of a list, a test with its body, and a module
abbrev pub body_tree : List Stmt → Suite
body_tree ss = suite_of (map stmt_tree ss)

abbrev pub arm_tree : Expr × List Stmt → ExprTree × Suite
arm_tree a = (expr_tree a.0, body_tree a.1)

abbrev pub module_tree : Module → Suite
module_tree m = body_tree m.body
