-- What a function stands for, by its parts.
use Rattle.std.proofs.Common.{◌≡◌, map}
use Rattle.py_syntax.specs.declared.statement.Func.{Func, out-Func, fold_out-Func}
use Rattle.py_syntax.specs.Expressions.{expr_tree}
use Rattle.py_syntax.specs.Statements.{StmtTree, StmtNode, HandlerTree, FuncTree, ClassTree, maybe_expr, param_tree, node_step, class_step, func_step, handler_step, stmt_step, func_tree, body_tree}

pub func_tree_at : (f : Func) → func_tree f ≡ record { name = (out-Func f).name; params = map param_tree (out-Func f).params; ret = maybe_expr (out-Func f).ret; body = body_tree (out-Func f).body; marks = map expr_tree (out-Func f).marks }
func_tree_at f = fold_out-Func StmtNode ClassTree FuncTree HandlerTree StmtTree node_step class_step func_step handler_step stmt_step f
