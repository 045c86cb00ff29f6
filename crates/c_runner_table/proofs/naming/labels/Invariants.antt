use Rattle.std.proofs.Common.{◌≡◌, take}
use Rattle.c_core.specs.Functions.{label_places}
use Rattle.c_runner_table.proofs.naming.labels.Given as goal

abbrev pub invariant-loop-place : goal.invariant-loop-place
invariant-loop-place l = l.labels ≡ label_places (take l.place l.lines)
