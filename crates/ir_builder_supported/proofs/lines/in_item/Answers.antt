use Rattle.ir_builder_supported.proofs.Common.{arith}
use Rattle.py_typed.proofs.ExpressionLemmas.{type_at}
use Rattle.ir_builder_supported.proofs.FormLemmas.{least_append}
use Rattle.ir_builder_supported.proofs.lines.in_item.Goals as goal

pub returns-then-is_list : goal.returns-then-is_list
returns-then-is_list c = grind (arith, least_append, type_at c.args.items.now)
