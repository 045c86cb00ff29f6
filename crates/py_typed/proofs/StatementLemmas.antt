-- What each kind of declared typed statement, and a handler, stands for.
use Rattle.std.proofs.Common.{◌≡◌, List, [], ◌∷◌, map, Option, Some, None, refl, ap, sym, ◌∙◌}
use Rattle.std.specs.Option.{option_map}
use Rattle.py_syntax.specs.declared.expression.BinOp.{BinOp}
use Rattle.py_typed.specs.declared.types.Ty.{Ty}
use Rattle.py_typed.specs.declared.expression.TExpr.{TExpr}
use Rattle.py_typed.specs.declared.statement.Target.{Target}
use Rattle.py_typed.specs.declared.statement.TStmt.{TStmt, fold_out-TStmt}
use Rattle.py_typed.specs.declared.statement.THandler.{THandler, out-THandler, fold_out-THandler}
use Rattle.py_typed.specs.declared.statement.TStmtKind.{TStmtKind, fold-roll-TStmtKind, roll-TStmtKind}
use Rattle.py_typed.specs.declared.statement.TStmtKind as kind
use Rattle.py_typed.specs.declared.statement.TStmtKind.TheVariants as variant
use Rattle.py_typed.specs.declared.statement.TStmtKind.TheOpen.{TStmtKind-F}
use Rattle.py_typed.specs.declared.statement.TStmtKind.TheShapes.{former-TStmtKind-Try-2}
use Rattle.py_typed.specs.Sorts.{sort}
use Rattle.py_typed.specs.Expressions.{typed_expr}
use Rattle.py_typed.specs.Statements as tree
use Rattle.py_typed.specs.Statements.{TypedStmt, TypedAct, HandlerParts, on_line, suite_of, arms_of, handlers_of, maybe_suite, typed_target, maybe_typed, arm_step, act_step, handler_step, stmt_step, typed_stmt, typed_act, typed_handler, typed_suite, typed_arm}

-- a statement by its kind and its line
pub typed_stmt_at : (s : TStmt) → typed_stmt s ≡ on_line (typed_act s.kind) s.line
typed_stmt_at s = fold_out-TStmt TypedAct HandlerParts TypedStmt act_step handler_step stmt_step s

-- the same where the kind is known
pub typed_stmt_of : (s : TStmt) (k : TStmtKind) → s.kind ≡ k → typed_stmt s ≡ on_line (typed_act k) s.line
typed_stmt_of s k is = typed_stmt_at s ∙ ap (λ a. on_line (typed_act a) s.line) is

-- a handler by its parts
pub typed_handler_at : (h : THandler) → typed_handler h ≡ record { classes = (out-THandler h).classes; name = option_map typed_target (out-THandler h).name; body = typed_suite (out-THandler h).body }
typed_handler_at h = fold_out-THandler TypedAct HandlerParts TypedStmt act_step handler_step stmt_step h

rolled : (k : TStmtKind-F TStmtKind THandler TStmt) (made : TStmtKind) → roll-TStmtKind k ≡ made → typed_act made ≡ act_step (kind.map-TStmtKind TStmtKind THandler TStmt TypedAct HandlerParts TypedStmt typed_act typed_handler typed_stmt k)
rolled k made is = ap typed_act (sym is) ∙ fold-roll-TStmtKind TypedAct HandlerParts TypedStmt act_step handler_step stmt_step k

-- the arms of an if, whose bodies are trees already
stepped : (arms : List (TExpr × List TStmt)) → map arm_step (map (λ a. (a.0, map typed_stmt a.1)) arms) ≡ map typed_arm arms
stepped [] = refl
stepped (a ∷ more) = ap (λ l. typed_arm a ∷ l) (stepped more)

last_suite : (o : Option (List TStmt)) → option_map suite_of (former-TStmtKind-Try-2.map TStmt TypedStmt typed_stmt o) ≡ option_map typed_suite o
last_suite None = refl
last_suite (Some body) = refl

pub typed_act-Expr : (e : TExpr) → typed_act (kind.Expr e) ≡ tree.Do (typed_expr e)
typed_act-Expr e = rolled (TStmtKind-F.Expr e) (kind.Expr e) (variant.rolls-Expr e)

pub typed_act-Assign : (ts : List Target) (e : TExpr) → typed_act (kind.Assign ts e) ≡ tree.Assign (map typed_target ts) (typed_expr e)
typed_act-Assign ts e = rolled (TStmtKind-F.Assign ts e) (kind.Assign ts e) (variant.rolls-Assign ts e)

pub typed_act-Aug : (t : Target) (op : BinOp) (e : TExpr) (ty : Ty) → typed_act (kind.Aug t op e ty) ≡ tree.Aug (typed_target t) op (typed_expr e) (sort ty)
typed_act-Aug t op e ty = rolled (TStmtKind-F.Aug t op e ty) (kind.Aug t op e ty) (variant.rolls-Aug t op e ty)

pub typed_act-Del : (e i : TExpr) → typed_act (kind.Del e i) ≡ tree.Del (typed_expr e) (typed_expr i)
typed_act-Del e i = rolled (TStmtKind-F.Del e i) (kind.Del e i) (variant.rolls-Del e i)

pub typed_act-If : (arms : List (TExpr × List TStmt)) (other : List TStmt) → typed_act (kind.If arms other) ≡ tree.If (arms_of (map typed_arm arms)) (typed_suite other)
typed_act-If arms other = rolled (TStmtKind-F.If arms other) (kind.If arms other) (variant.rolls-If arms other) ∙ ap (λ l. tree.If (arms_of l) (typed_suite other)) (stepped arms)

pub typed_act-While : (e : TExpr) (body : List TStmt) → typed_act (kind.While e body) ≡ tree.While (typed_expr e) (typed_suite body)
typed_act-While e body = rolled (TStmtKind-F.While e body) (kind.While e body) (variant.rolls-While e body)

pub typed_act-ForRange : (ts : List Target) (a : Option TExpr) (b : TExpr) (body : List TStmt) → typed_act (kind.ForRange ts a b body) ≡ tree.ForRange (map typed_target ts) (maybe_typed a) (typed_expr b) (typed_suite body)
typed_act-ForRange ts a b body = rolled (TStmtKind-F.ForRange ts a b body) (kind.ForRange ts a b body) (variant.rolls-ForRange ts a b body)

pub typed_act-ForList : (ts : List Target) (e : TExpr) (body : List TStmt) → typed_act (kind.ForList ts e body) ≡ tree.ForList (map typed_target ts) (typed_expr e) (typed_suite body)
typed_act-ForList ts e body = rolled (TStmtKind-F.ForList ts e body) (kind.ForList ts e body) (variant.rolls-ForList ts e body)

pub typed_act-ForDict : (ts : List Target) (e : TExpr) (body : List TStmt) → typed_act (kind.ForDict ts e body) ≡ tree.ForDict (map typed_target ts) (typed_expr e) (typed_suite body)
typed_act-ForDict ts e body = rolled (TStmtKind-F.ForDict ts e body) (kind.ForDict ts e body) (variant.rolls-ForDict ts e body)

pub typed_act-Try : (body : List TStmt) (handlers : List THandler) (last : Option (List TStmt)) → typed_act (kind.Try body handlers last) ≡ tree.Try (typed_suite body) (handlers_of (map typed_handler handlers)) (maybe_suite (option_map typed_suite last))
typed_act-Try body handlers last = rolled (TStmtKind-F.Try body handlers last) (kind.Try body handlers last) (variant.rolls-Try body handlers last) ∙ ap (λ o. tree.Try (typed_suite body) (handlers_of (map typed_handler handlers)) (maybe_suite o)) (last_suite last)

pub typed_act-Raise : (e : Option TExpr) → typed_act (kind.Raise e) ≡ tree.Raise (maybe_typed e)
typed_act-Raise e = rolled (TStmtKind-F.Raise e) (kind.Raise e) (variant.rolls-Raise e)

pub typed_act-Return : (e : Option TExpr) → typed_act (kind.Return e) ≡ tree.Return (maybe_typed e)
typed_act-Return e = rolled (TStmtKind-F.Return e) (kind.Return e) (variant.rolls-Return e)

pub typed_act-Break : typed_act kind.Break ≡ tree.Break
typed_act-Break = rolled TStmtKind-F.Break kind.Break variant.rolls-Break

pub typed_act-Continue : typed_act kind.Continue ≡ tree.Continue
typed_act-Continue = rolled TStmtKind-F.Continue kind.Continue variant.rolls-Continue

pub typed_act-Assert : (e : TExpr) (message : Option TExpr) → typed_act (kind.Assert e message) ≡ tree.Assert (typed_expr e) (maybe_typed message)
typed_act-Assert e message = rolled (TStmtKind-F.Assert e message) (kind.Assert e message) (variant.rolls-Assert e message)

pub typed_act-Pass : typed_act kind.Pass ≡ tree.Pass
typed_act-Pass = rolled TStmtKind-F.Pass kind.Pass variant.rolls-Pass

-- statements whose parts stand in lists
pub typed_stmt-If : (s : TStmt) (arms : List (TExpr × List TStmt)) (other : List TStmt) → s.kind ≡ kind.If arms other → typed_stmt s ≡ on_line (tree.If (arms_of (map typed_arm arms)) (typed_suite other)) s.line
typed_stmt-If s arms other is = typed_stmt_of s (kind.If arms other) is ∙ ap (λ a. on_line a s.line) (typed_act-If arms other)

pub typed_stmt-While : (s : TStmt) (e : TExpr) (body : List TStmt) → s.kind ≡ kind.While e body → typed_stmt s ≡ on_line (tree.While (typed_expr e) (typed_suite body)) s.line
typed_stmt-While s e body is = typed_stmt_of s (kind.While e body) is ∙ ap (λ a. on_line a s.line) (typed_act-While e body)

pub typed_stmt-Try : (s : TStmt) (body : List TStmt) (handlers : List THandler) (last : Option (List TStmt)) → s.kind ≡ kind.Try body handlers last → typed_stmt s ≡ on_line (tree.Try (typed_suite body) (handlers_of (map typed_handler handlers)) (maybe_suite (option_map typed_suite last))) s.line
typed_stmt-Try s body handlers last is = typed_stmt_of s (kind.Try body handlers last) is ∙ ap (λ a. on_line a s.line) (typed_act-Try body handlers last)

pub ruleset typed_acts = (
  typed_act-Expr,
  typed_act-Assign,
  typed_act-Aug,
  typed_act-Del,
  typed_act-If,
  typed_act-While,
  typed_act-ForRange,
  typed_act-ForList,
  typed_act-ForDict,
  typed_act-Try,
  typed_act-Raise,
  typed_act-Return,
  typed_act-Break,
  typed_act-Continue,
  typed_act-Assert,
  typed_act-Pass,
)
