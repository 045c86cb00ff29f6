use Rattle.std.proofs.Common.{◌≡◌, ◌-◌, ℕ, get_or}
use Rattle.py_typed.specs.Order as order
use Rattle.py_typed.specs.Order.{is_free, heads, headless}
use Rattle.class_layout.specs.Merging.{rows_of, times_behind, behind}
use Rattle.class_layout.proofs.merge.merge.Given as goal

abbrev pub invariant-loop : goal.invariant-loop
invariant-loop l =
    record {
      kept : behind l.merged (order.merge_by (l.entries - l.counter) (rows_of l.rows)) ≡ behind l.fn.first (order.merge (rows_of l.initial.rows));
      counted : (c : ℕ) → get_or l.behind c 0 ≡ times_behind c (rows_of l.rows);
    }
