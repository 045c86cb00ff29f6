use Rattle.std.proofs.Common.{◌≡◌, ◌+◌, drop}
use Rattle.class_layout.specs.Merging.{rows_of, entries}
use Rattle.class_layout.proofs.merge.entries_in.Given as goal

abbrev pub invariant-loop-row : goal.invariant-loop-row
invariant-loop-row l =
    l.count + entries (rows_of (drop l.row-index l.rows)) ≡ entries (rows_of l.rows)
