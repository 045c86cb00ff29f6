use Rattle.std.proofs.Common.{◌≡◌, drop}
use Rattle.class_layout.specs.Merging.{is_below}
use Rattle.class_layout.proofs.order.is_row_below.Given as goal

abbrev pub invariant-loop-number : goal.invariant-loop-number
invariant-loop-number l = is_below l.count (drop l.number-index l.row) ≡ is_below l.count l.row
