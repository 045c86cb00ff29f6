-- What each kind of statement, and a handler, stands for.
use Rattle.std.proofs.Common.{◌≡◌, ℕ, List, Option}
use Rattle.std.proofs.lemmas.List.{map-append}
use Rattle.py_syntax.specs.declared.expression.Expr.{Expr}
use Rattle.py_syntax.specs.declared.statement.Handler.{roll-Handler, fold-roll-Handler}
use Rattle.py_syntax.specs.declared.statement.Stmt.{Stmt}
use Rattle.py_syntax.specs.declared.token.Span.{Span}
use Rattle.py_syntax.specs.Statements.{StmtTree, StmtNode, HandlerTree, FuncTree, ClassTree, maybe_expr, node_step, class_step, func_step, handler_step, stmt_step, handler_tree, body_tree}
use Rattle.py_syntax.proofs.StatementLemmas.{stmt_tree_at, stmt_node-Return, stmt_node-Raise, stmt_node-Assert, stmt_node-Del, stmt_node-Global, stmt_node-Import, stmt_node-From, stmt_node-Expr, stmt_node-Assign, stmt_node-Aug, stmt_node-Annot, stmt_node-If, stmt_node-While, stmt_node-For, stmt_node-Try}
use Rattle.py_parser_nodes.specs.Parts.{handler_of}

pub handler_made : (c : Option Expr) (name : Option (List ℕ)) (body : List Stmt) (span : Span) → handler_tree (roll-Handler (record { class = c; name = name; body = body; span = span })) ≡ handler_of (maybe_expr c) name (body_tree body) span
handler_made c name body span = fold-roll-Handler StmtNode ClassTree FuncTree HandlerTree StmtTree node_step class_step func_step handler_step stmt_step (record { class = c; name = name; body = body; span = span })

pub ruleset nodes = (stmt_tree_at, stmt_node-Return, stmt_node-Raise, stmt_node-Assert, stmt_node-Del, stmt_node-Global, stmt_node-Import, stmt_node-From, stmt_node-Expr, stmt_node-Assign, stmt_node-Aug, stmt_node-Annot, stmt_node-If, stmt_node-While, stmt_node-For, stmt_node-Try)

pub ruleset parts = (handler_made)

pub ruleset rows = (map-append)
