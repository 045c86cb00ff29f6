use Rattle.std.proofs.Common.{◌≡◌, IfOk, map, subst}
use Rattle.py_typed.specs.Classes.{class_entry}
use Rattle.class_layout.proofs.OrderLemmas.{next_rows, next_is}
use Rattle.class_layout.proofs.order.next_order.Goals as goal

pub order_of-requires : goal.order_of-requires
order_of-requires c = next_rows (map class_entry c.args.classes.now) c.requires.falls c.args.orders.now c.requires.known c.args.number c.bases_at.result.now c.requires.counted c.bases_at.ensures

pub returns : goal.returns
returns c =
    subst (λ z. IfOk c.order_of.result (λ row. row ≡ z))
    (next_is (map class_entry c.args.classes.now) c.requires.falls c.args.orders.now c.requires.known c.args.number c.bases_at.result.now c.requires.counted c.bases_at.ensures)
    c.order_of.ensures
