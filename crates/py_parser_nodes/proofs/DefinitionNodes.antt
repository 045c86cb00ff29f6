-- What functions and classes stand for that are made of their parts.
use Rattle.std.proofs.Common.{◌≡◌, ℕ, List, map, Option}
use Rattle.std.proofs.lemmas.List.{map-append}
use Rattle.py_syntax.specs.declared.expression.Expr.{Expr}
use Rattle.py_syntax.specs.declared.statement.Class.{roll-Class, fold-roll-Class}
use Rattle.py_syntax.specs.declared.statement.Func.{roll-Func, fold-roll-Func}
use Rattle.py_syntax.specs.declared.statement.Stmt.{Stmt}
use Rattle.py_syntax.specs.Expressions.{expr_tree}
use Rattle.py_syntax.specs.Statements.{StmtTree, StmtNode, HandlerTree, FuncTree, ClassTree, maybe_expr, param_tree, node_step, class_step, func_step, handler_step, stmt_step, func_tree, class_tree, body_tree}

pub func_made : (name : List ℕ) (params : List (List ℕ × Option Expr)) (ret : Option Expr) (body : List Stmt) (marks : List Expr)
    → func_tree (roll-Func (record { name = name; params = params; ret = ret; body = body; marks = marks }))
    ≡ record { name = name; params = map param_tree params; ret = maybe_expr ret; body = body_tree body; marks = map expr_tree marks }
func_made name params ret body marks = fold-roll-Func StmtNode ClassTree FuncTree HandlerTree StmtTree node_step class_step func_step handler_step stmt_step (record { name = name; params = params; ret = ret; body = body; marks = marks })

pub class_made : (name : List ℕ) (bases : List Expr) (body : List Stmt) (marks : List Expr)
    → class_tree (roll-Class (record { name = name; bases = bases; body = body; marks = marks }))
    ≡ record { name = name; bases = map expr_tree bases; body = body_tree body; marks = map expr_tree marks }
class_made name bases body marks = fold-roll-Class StmtNode ClassTree FuncTree HandlerTree StmtTree node_step class_step func_step handler_step stmt_step (record { name = name; bases = bases; body = body; marks = marks })

pub ruleset parts = (func_made, class_made)

pub ruleset rows = (map-append)
