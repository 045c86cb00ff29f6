use Rattle.ir_builder_supported.proofs.Common.{arith}
use Rattle.py_typed.proofs.ExpressionLemmas.{typed_expr_at, typed_node-And, typed_node-Append, typed_node-Arith, typed_node-At, typed_node-Compare, typed_node-Concat, typed_node-Cond, typed_node-Or}
use Rattle.ir_builder_supported.proofs.FormLemmas.{least_append}
use Rattle.ir_builder_supported.proofs.lines.+expression.Goals as goal

pub in_expression-returns-in-Arith : goal.in_expression-returns-in-Arith
in_expression-returns-in-Arith t c = grind (arith, least_append, typed_expr_at c.args.e.now, typed_node-Arith, typed_node-Concat, typed_node-And, typed_node-Or, typed_node-At, typed_node-Append)

pub in_expression-returns-in-Compare : goal.in_expression-returns-in-Compare
in_expression-returns-in-Compare t c = grind (arith, least_append, typed_expr_at c.args.e.now, typed_node-Compare)

pub in_expression-returns-in-Cond : goal.in_expression-returns-in-Cond
in_expression-returns-in-Cond t c = grind (arith, least_append, typed_expr_at c.args.e.now, typed_node-Cond c.in-Cond.a c.in-Cond.test c.in-Cond.b)
