use Rattle.std.proofs.Common.{◌≡◌, ◌<◌, ℕ, map, length, slice_get}
use Rattle.py_typed.specs.Classes.{class_entry}
use Rattle.py_typed.specs.Order.{order}
use Rattle.class_layout.proofs.order.orders.Given as goal

abbrev pub invariant-loop-number : goal.invariant-loop-number
invariant-loop-number l =
    record {
      long : l.number ≡ length l.orders;
      each : (c : ℕ) → c < length l.orders → slice_get l.orders c ≡ order (map class_entry l.classes) c;
    }
