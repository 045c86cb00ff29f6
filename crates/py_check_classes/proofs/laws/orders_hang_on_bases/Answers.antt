use Rattle.py_check_classes.proofs.OrderLemmas.{same_orders}
use Rattle.py_check_classes.proofs.laws.orders_hang_on_bases.Goals as goal

pub returns : goal.returns
returns c = same_orders
