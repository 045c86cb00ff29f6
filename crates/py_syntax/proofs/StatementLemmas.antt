-- What each kind of declared statement stands for, and statements in a row as a list.
use Rattle.std.proofs.Common.{◌≡◌, ℕ, List, [], ◌∷◌, map, Option, Some, None, refl, ap, sym, ◌∙◌}
use Rattle.std.specs.Option.{option_map}
use Rattle.py_syntax.specs.declared.expression.BinOp.{BinOp}
use Rattle.py_syntax.specs.declared.expression.Expr.{Expr}
use Rattle.py_syntax.specs.declared.statement.Stmt.{Stmt, fold_out-Stmt}
use Rattle.py_syntax.specs.declared.statement.Handler.{Handler}
use Rattle.py_syntax.specs.declared.statement.Func.{Func}
use Rattle.py_syntax.specs.declared.statement.Class.{Class}
use Rattle.py_syntax.specs.declared.statement.StmtKind.{StmtKind, fold-roll-StmtKind, roll-StmtKind}
use Rattle.py_syntax.specs.declared.statement.StmtKind as kind
use Rattle.py_syntax.specs.declared.statement.StmtKind.TheVariants as variant
use Rattle.py_syntax.specs.declared.statement.StmtKind.TheOpen.{StmtKind-F}
use Rattle.py_syntax.specs.declared.statement.StmtKind.TheShapes.{former-StmtKind-Try-2}
use Rattle.py_syntax.specs.Expressions.{expr_tree}
use Rattle.py_syntax.specs.Statements as tree
use Rattle.py_syntax.specs.Statements.{StmtTree, StmtNode, HandlerTree, FuncTree, ClassTree, Suite, no_stmts, stmt_then, Arms, no_arms, arm_then, Handlers, no_handlers, handler_then, at, suite_of, arms_of, handlers_of, maybe_suite, listed_suite, def_of, class_def_of, maybe_expr, arm_step, param_tree, node_step, class_step, func_step, handler_step, stmt_step, stmt_tree, stmt_node, handler_tree, func_tree, class_tree, body_tree, arm_tree}

-- a statement by its kind and its place
pub stmt_tree_at : (s : Stmt) → stmt_tree s ≡ at (stmt_node s.kind) s.span
stmt_tree_at s = fold_out-Stmt StmtNode ClassTree FuncTree HandlerTree StmtTree node_step class_step func_step handler_step stmt_step s

rolled : (k : StmtKind-F StmtKind Class Func Handler Stmt) (made : StmtKind) → roll-StmtKind k ≡ made → stmt_node made ≡ node_step (kind.map-StmtKind StmtKind Class Func Handler Stmt StmtNode ClassTree FuncTree HandlerTree StmtTree stmt_node class_tree func_tree handler_tree stmt_tree k)
rolled k made is = ap stmt_node (sym is) ∙ fold-roll-StmtKind StmtNode ClassTree FuncTree HandlerTree StmtTree node_step class_step func_step handler_step stmt_step k

-- the arms of an if, whose bodies are trees already
stepped : (arms : List (Expr × List Stmt)) → map arm_step (map (λ a. (a.0, map stmt_tree a.1)) arms) ≡ map arm_tree arms
stepped [] = refl
stepped (a ∷ more) = ap (λ l. arm_tree a ∷ l) (stepped more)

last_suite : (o : Option (List Stmt)) → option_map suite_of (former-StmtKind-Try-2.map Stmt StmtTree stmt_tree o) ≡ option_map body_tree o
last_suite None = refl
last_suite (Some body) = refl

pub stmt_node-Expr : (e : Expr) → stmt_node (kind.Expr e) ≡ tree.Do (expr_tree e)
stmt_node-Expr e = rolled (StmtKind-F.Expr e) (kind.Expr e) (variant.rolls-Expr e)

pub stmt_node-Assign : (t e : Expr) → stmt_node (kind.Assign t e) ≡ tree.Assign (expr_tree t) (expr_tree e)
stmt_node-Assign t e = rolled (StmtKind-F.Assign t e) (kind.Assign t e) (variant.rolls-Assign t e)

pub stmt_node-Annot : (t a : Expr) (e : Option Expr) → stmt_node (kind.Annot t a e) ≡ tree.Annot (expr_tree t) (expr_tree a) (maybe_expr e)
stmt_node-Annot t a e = rolled (StmtKind-F.Annot t a e) (kind.Annot t a e) (variant.rolls-Annot t a e)

pub stmt_node-Aug : (t : Expr) (op : BinOp) (e : Expr) → stmt_node (kind.Aug t op e) ≡ tree.Aug (expr_tree t) op (expr_tree e)
stmt_node-Aug t op e = rolled (StmtKind-F.Aug t op e) (kind.Aug t op e) (variant.rolls-Aug t op e)

pub stmt_node-Del : (e : Expr) → stmt_node (kind.Del e) ≡ tree.Del (expr_tree e)
stmt_node-Del e = rolled (StmtKind-F.Del e) (kind.Del e) (variant.rolls-Del e)

pub stmt_node-Pass : stmt_node kind.Pass ≡ tree.Pass
stmt_node-Pass = rolled StmtKind-F.Pass kind.Pass variant.rolls-Pass

pub stmt_node-Break : stmt_node kind.Break ≡ tree.Break
stmt_node-Break = rolled StmtKind-F.Break kind.Break variant.rolls-Break

pub stmt_node-Continue : stmt_node kind.Continue ≡ tree.Continue
stmt_node-Continue = rolled StmtKind-F.Continue kind.Continue variant.rolls-Continue

pub stmt_node-Return : (e : Option Expr) → stmt_node (kind.Return e) ≡ tree.Return (maybe_expr e)
stmt_node-Return e = rolled (StmtKind-F.Return e) (kind.Return e) (variant.rolls-Return e)

pub stmt_node-Raise : (e : Option Expr) → stmt_node (kind.Raise e) ≡ tree.Raise (maybe_expr e)
stmt_node-Raise e = rolled (StmtKind-F.Raise e) (kind.Raise e) (variant.rolls-Raise e)

pub stmt_node-Global : (names : List (List ℕ)) → stmt_node (kind.Global names) ≡ tree.Global names
stmt_node-Global names = rolled (StmtKind-F.Global names) (kind.Global names) (variant.rolls-Global names)

pub stmt_node-Assert : (e : Expr) (message : Option Expr) → stmt_node (kind.Assert e message) ≡ tree.Assert (expr_tree e) (maybe_expr message)
stmt_node-Assert e message = rolled (StmtKind-F.Assert e message) (kind.Assert e message) (variant.rolls-Assert e message)

pub stmt_node-Import : (name : List ℕ) (other : Option (List ℕ)) → stmt_node (kind.Import name other) ≡ tree.Import name other
stmt_node-Import name other = rolled (StmtKind-F.Import name other) (kind.Import name other) (variant.rolls-Import name other)

pub stmt_node-From : (name : List ℕ) (names : List (List ℕ × Option (List ℕ))) → stmt_node (kind.From name names) ≡ tree.From name names
stmt_node-From name names = rolled (StmtKind-F.From name names) (kind.From name names) (variant.rolls-From name names)

pub stmt_node-If : (arms : List (Expr × List Stmt)) (other : List Stmt) → stmt_node (kind.If arms other) ≡ tree.If (arms_of (map arm_tree arms)) (body_tree other)
stmt_node-If arms other = rolled (StmtKind-F.If arms other) (kind.If arms other) (variant.rolls-If arms other) ∙ ap (λ l. tree.If (arms_of l) (body_tree other)) (stepped arms)

pub stmt_node-While : (e : Expr) (body : List Stmt) → stmt_node (kind.While e body) ≡ tree.While (expr_tree e) (body_tree body)
stmt_node-While e body = rolled (StmtKind-F.While e body) (kind.While e body) (variant.rolls-While e body)

pub stmt_node-For : (t e : Expr) (body : List Stmt) → stmt_node (kind.For t e body) ≡ tree.For (expr_tree t) (expr_tree e) (body_tree body)
stmt_node-For t e body = rolled (StmtKind-F.For t e body) (kind.For t e body) (variant.rolls-For t e body)

pub stmt_node-Try : (body : List Stmt) (handlers : List Handler) (last : Option (List Stmt)) → stmt_node (kind.Try body handlers last) ≡ tree.Try (body_tree body) (handlers_of (map handler_tree handlers)) (maybe_suite (option_map body_tree last))
stmt_node-Try body handlers last = rolled (StmtKind-F.Try body handlers last) (kind.Try body handlers last) (variant.rolls-Try body handlers last) ∙ ap (λ o. tree.Try (body_tree body) (handlers_of (map handler_tree handlers)) (maybe_suite o)) (last_suite last)

pub stmt_node-Def : (f : Func) → stmt_node (kind.Def f) ≡ def_of (func_tree f)
stmt_node-Def f = rolled (StmtKind-F.Def f) (kind.Def f) (variant.rolls-Def f)

pub stmt_node-Class : (c : Class) → stmt_node (kind.Class c) ≡ class_def_of (class_tree c)
stmt_node-Class c = rolled (StmtKind-F.Class c) (kind.Class c) (variant.rolls-Class c)

pub ruleset stmt_nodes = (
  stmt_node-Expr,
  stmt_node-Assign,
  stmt_node-Annot,
  stmt_node-Aug,
  stmt_node-Del,
  stmt_node-Pass,
  stmt_node-Break,
  stmt_node-Continue,
  stmt_node-Return,
  stmt_node-Raise,
  stmt_node-Global,
  stmt_node-Assert,
  stmt_node-Import,
  stmt_node-From,
  stmt_node-If,
  stmt_node-While,
  stmt_node-For,
  stmt_node-Try,
  stmt_node-Def,
  stmt_node-Class,
)

-- a row made of a list lists it again
pub listed-suite_of : (ss : List StmtTree) → listed_suite (suite_of ss) ≡ ss
listed-suite_of [] = refl
listed-suite_of (s ∷ ss) = ap (λ l. s ∷ l) (listed-suite_of ss)
