use Rattle.ir_builder_supported.proofs.Common.{arith}
use Rattle.py_typed.proofs.ExpressionLemmas.{typed_node-Compare, type_at}
use Rattle.ir_builder_supported.proofs.forms.is_form.Goals as goal

pub returns-then-is_bool-2 : goal.returns-then-is_bool-2
returns-then-is_bool-2 c = grind (arith, typed_node-Compare c.in-Compare.first c.in-Compare.more, type_at)
