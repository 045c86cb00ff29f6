use Rattle.std.proofs.Common.{◌≡◌, ◌++◌, true, nat_lt, map, drop, length}
use Rattle.std.specs.List.{list_all}
use Rattle.py_check_classes.specs.Headers.{entry}
use Rattle.py_check_classes.specs.Kept.{rows_above}
use Rattle.py_check_classes.proofs.orders.orders_of.Given as goal

abbrev pub invariant-loop-base : goal.invariant-loop-base
invariant-loop-base l =
    record {
      rows : l.rows.items ++ rows_above (map entry l.headers) (drop l.base-index l.bases) ≡ rows_above (map entry l.headers) l.bases;
      below : list_all (λ b. nat_lt b (length l.headers)) (drop l.base-index l.bases) ≡ true;
    }
