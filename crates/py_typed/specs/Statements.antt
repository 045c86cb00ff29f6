-- Typed statements and whole typed modules as plain data, and what declared ones stand for.
use Rattle.std.specs.Prelude.{ℕ, List, [], ◌∷◌, map, Option, Some, None}
use Rattle.std.specs.Option.{option_map}
use Rattle.value_core.specs.declared.exception.ExcClass.{ExcClass}
use Rattle.py_syntax.specs.declared.expression.BinOp.{BinOp}
use Rattle.py_typed.specs.declared.expression.TExpr.{TExpr}
use Rattle.py_typed.specs.declared.statement.Target.{Target}
use Rattle.py_typed.specs.declared.statement.Target.TheVariants as target
use Rattle.py_typed.specs.declared.statement.TStmt.{TStmt, fold-TStmt}
use Rattle.py_typed.specs.declared.statement.TStmtKind.{TStmtKind, fold-TStmtKind}
use Rattle.py_typed.specs.declared.statement.THandler.{THandler, fold-THandler}
use Rattle.py_typed.specs.declared.statement.TStmtKind.TheOpen.{TStmtKind-F, THandler-F, TStmt-F}
use Rattle.py_typed.specs.declared.checked.Var.{Var}
use Rattle.py_typed.specs.declared.checked.TFunc.{TFunc}
use Rattle.py_typed.specs.declared.checked.Checked.{Checked}
use Rattle.py_typed.specs.Sorts.{Sort, sort}
use Rattle.py_typed.specs.Classes.{ClassTable}
use Rattle.py_typed.specs.ClassTables.{class_table}
use Rattle.py_typed.specs.Expressions.{TypedExpr, typed_expr}

-- what is assigned to
pub data TypedTarget : Type 0 where
  LocalTarget : ℕ → TypedTarget
  GlobalTarget : ℕ → TypedTarget
  AttrTarget : TypedExpr → List ℕ → TypedTarget
  ItemTarget : TypedExpr → TypedExpr → TypedTarget

mutual
  -- a statement, with its line
  pub data TypedStmt : Type 0 where
    on_line : TypedAct → ℕ → TypedStmt

  pub data TypedAct : Type 0 where
    Do : TypedExpr → TypedAct
    Assign : List TypedTarget → TypedExpr → TypedAct
    -- with the type of the operation's result
    Aug : TypedTarget → BinOp → TypedExpr → Sort → TypedAct
    Del : TypedExpr → TypedExpr → TypedAct
    If : Arms → TypedSuite → TypedAct
    While : TypedExpr → TypedSuite → TypedAct
    ForRange : List TypedTarget → Option TypedExpr → TypedExpr → TypedSuite → TypedAct
    ForList : List TypedTarget → TypedExpr → TypedSuite → TypedAct
    ForDict : List TypedTarget → TypedExpr → TypedSuite → TypedAct
    Try : TypedSuite → Handlers → MaybeSuite → TypedAct
    Raise : Option TypedExpr → TypedAct
    Return : Option TypedExpr → TypedAct
    Break : TypedAct
    Continue : TypedAct
    Assert : TypedExpr → Option TypedExpr → TypedAct
    Pass : TypedAct

  -- statements in a row
  pub data TypedSuite : Type 0 where
    no_stmts : TypedSuite
    stmt_then : TypedStmt → TypedSuite → TypedSuite

  -- tests, each with its body
  pub data Arms : Type 0 where
    no_arms : Arms
    arm_then : TypedExpr → TypedSuite → Arms → Arms

  -- handlers, each with its classes, name and body
  pub data Handlers : Type 0 where
    no_handlers : Handlers
    handler_then : List ExcClass → Option TypedTarget → TypedSuite → Handlers → Handlers

  pub data MaybeSuite : Type 0 where
    no_suite : MaybeSuite
    some_suite : TypedSuite → MaybeSuite

-- the parts of a handler, by name
pub record HandlerParts : Type 0 where
  pub classes : List ExcClass
  pub name : Option TypedTarget
  pub body : TypedSuite

-- rows of parts made of lists
abbrev pub suite_of : List TypedStmt → TypedSuite
suite_of [] = no_stmts
suite_of (s ∷ ss) = stmt_then s (suite_of ss)

abbrev pub arms_of : List (TypedExpr × TypedSuite) → Arms
arms_of [] = no_arms
arms_of (a ∷ more) = arm_then a.0 a.1 (arms_of more)

abbrev pub handlers_of : List HandlerParts → Handlers
handlers_of [] = no_handlers
handlers_of (h ∷ more) = handler_then h.classes h.name h.body (handlers_of more)

abbrev pub maybe_suite : Option TypedSuite → MaybeSuite
maybe_suite None = no_suite
maybe_suite (Some body) = some_suite body

-- what a declared target stands for
abbrev pub typed_target : Target → TypedTarget
typed_target (target.Local i) = LocalTarget i
typed_target (target.Global i) = GlobalTarget i
typed_target (target.Attr e name) = AttrTarget (typed_expr e) name
typed_target (target.At e i) = ItemTarget (typed_expr e) (typed_expr i)

abbrev pub maybe_typed : Option TExpr → Option TypedExpr
maybe_typed = option_map typed_expr

-- a test with its body
abbrev pub arm_step : TExpr × List TypedStmt → TypedExpr × TypedSuite
arm_step a = (typed_expr a.0, suite_of a.1)

-- one level of a declared statement, whose parts are seen already
abbrev pub act_step : TStmtKind-F TypedAct HandlerParts TypedStmt → TypedAct
act_step (TStmtKind-F.Expr e) = Do (typed_expr e)
act_step (TStmtKind-F.Assign ts e) = Assign (map typed_target ts) (typed_expr e)
act_step (TStmtKind-F.Aug t op e ty) = Aug (typed_target t) op (typed_expr e) (sort ty)
act_step (TStmtKind-F.Del e i) = Del (typed_expr e) (typed_expr i)
act_step (TStmtKind-F.If arms other) = If (arms_of (map arm_step arms)) (suite_of other)
act_step (TStmtKind-F.While e body) = While (typed_expr e) (suite_of body)
act_step (TStmtKind-F.ForRange ts a b body) = ForRange (map typed_target ts) (maybe_typed a) (typed_expr b) (suite_of body)
act_step (TStmtKind-F.ForList ts e body) = ForList (map typed_target ts) (typed_expr e) (suite_of body)
act_step (TStmtKind-F.ForDict ts e body) = ForDict (map typed_target ts) (typed_expr e) (suite_of body)
act_step (TStmtKind-F.Try body handlers last) =
    Try (suite_of body) (handlers_of handlers) (maybe_suite (option_map suite_of last))
act_step (TStmtKind-F.Raise e) = Raise (maybe_typed e)
act_step (TStmtKind-F.Return e) = Return (maybe_typed e)
act_step TStmtKind-F.Break = Break
act_step TStmtKind-F.Continue = Continue
act_step (TStmtKind-F.Assert e message) = Assert (typed_expr e) (maybe_typed message)
act_step TStmtKind-F.Pass = Pass

abbrev pub handler_step : THandler-F TypedAct HandlerParts TypedStmt → HandlerParts
handler_step h = record { classes = h.classes; name = option_map typed_target h.name; body = suite_of h.body }

abbrev pub stmt_step : TStmt-F TypedAct HandlerParts TypedStmt → TypedStmt
stmt_step s = on_line s.kind s.line

-- what a declared statement stands for
abbrev pub typed_stmt : TStmt → TypedStmt
typed_stmt = fold-TStmt TypedAct HandlerParts TypedStmt act_step handler_step stmt_step

abbrev pub typed_act : TStmtKind → TypedAct
typed_act = fold-TStmtKind TypedAct HandlerParts TypedStmt act_step handler_step stmt_step

abbrev pub typed_handler : THandler → HandlerParts
typed_handler = fold-THandler TypedAct HandlerParts TypedStmt act_step handler_step stmt_step

abbrev pub typed_suite : List TStmt → TypedSuite
typed_suite ss = suite_of (map typed_stmt ss)

abbrev pub typed_arm : TExpr × List TStmt → TypedExpr × TypedSuite
typed_arm a = (typed_expr a.0, typed_suite a.1)

-- a variable: its name and its type
abbrev pub Variable : Type 0
Variable = List ℕ × Sort

-- a function, or a method of the class of this number; its first locals are its parameters
pub record TypedFunc : Type 0 where
  pub name : List ℕ
  pub class : Option ℕ
  pub params : ℕ
  pub locals : List Variable
  pub ret : Sort
  pub body : TypedSuite

-- a module: its classes, variables and functions, and its own statements
pub record TypedModule : Type 0 where
  pub classes : ClassTable
  pub globals : List Variable
  pub funcs : List TypedFunc
  pub top : TypedSuite

abbrev pub variable : Var → Variable
variable x = (x.name, sort x.ty)

abbrev pub typed_func : TFunc → TypedFunc
typed_func f = record {
  name = f.name;
  class = f.class;
  params = f.params;
  locals = map variable f.locals;
  ret = sort f.ret;
  body = typed_suite f.body;
}

-- what a declared module stands for
abbrev pub typed_module : Checked → TypedModule
typed_module m = record {
  classes = class_table m.classes;
  globals = map variable m.globals;
  funcs = map typed_func m.funcs;
  top = typed_suite m.top;
}
