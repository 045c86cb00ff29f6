use Rattle.value_core.proofs.OrderLemmas.{byte_order}
use Rattle.value_core.proofs.laws.byte_order_is_text_order.Goals as goal

pub returns : goal.returns
returns c = byte_order
