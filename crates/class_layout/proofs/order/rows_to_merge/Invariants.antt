use Rattle.std.proofs.Common.{◌≡◌, ◌++◌, map, drop, slice_get}
use Rattle.py_typed.specs.Order.{listed_order}
use Rattle.class_layout.specs.Merging.{rows_of}
use Rattle.class_layout.proofs.order.rows_to_merge.Given as goal

abbrev pub invariant-loop-base : goal.invariant-loop-base
invariant-loop-base l =
    rows_of l.rows.items ++ map (λ b. listed_order (slice_get l.orders b)) (drop l.base-index l.bases) ≡ map (λ b. listed_order (slice_get l.orders b)) l.bases
