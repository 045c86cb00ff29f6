use Rattle.std.proofs.Common.{◌≡◌, ◌+◌, ℕ, take}
use Rattle.c_core.specs.Cells.{times}
use Rattle.refcount_insert.proofs.pairs.push_below.Given as goal

abbrev pub invariant-loop-i : goal.invariant-loop-i
invariant-loop-i l =
    (r : ℕ) → times l.rest.items r + times (take l.place l.numbers) r ≡ times l.initial.rest.items r + times (take l.i l.numbers) r
