use Rattle.ir_builder_supported.proofs.Common.{arith}
use Rattle.py_typed.proofs.ExpressionLemmas.{typed_node-Compare, type_at}
use Rattle.ir_builder_supported.proofs.naming.node_form.Goals as goal

pub returns-in-Compare : goal.returns-in-Compare
returns-in-Compare c = grind (arith, typed_node-Compare c.in-Compare.first c.in-Compare.more, type_at)
