use Rattle.std.proofs.Common.{◌≡◌, ℕ, take}
use Rattle.c_core.specs.Cells.{times}
use Rattle.c_core.specs.Primitives.{row_of}
use Rattle.refcount_insert_rule.specs.Rule.{taken}
use Rattle.refcount_insert_counts.proofs.operands.stolen.Given as goal

abbrev pub invariant-loop-place : goal.invariant-loop-place
invariant-loop-place l = (r : ℕ) → times l.all.items r ≡ taken (row_of l.p).parameters (take l.place l.arguments) r
