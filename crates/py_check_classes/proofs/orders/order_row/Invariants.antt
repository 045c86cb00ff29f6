use Rattle.std.proofs.Common.{◌≡◌, ◌<◌, ◌++◌, map, length}
use Rattle.py_typed.specs.Order.{order, listed_order}
use Rattle.py_check_classes.specs.Headers.{entry}
use Rattle.py_check_classes.proofs.orders.order_row.Given as goal

abbrev pub invariant-loop-base : goal.invariant-loop-base
invariant-loop-base l =
    record {
      there : l.at < length l.headers;
      row : l.row ++ listed_order (order (map entry l.headers) l.at) ≡ listed_order (order (map entry l.headers) l.fn.class);
    }

abbrev pub decreases-loop-base : goal.decreases-loop-base
decreases-loop-base l = l.at
