use Rattle.std.proofs.Common.{◌≡◌, ◌++◌, drop}
use Rattle.c_core.specs.Functions.{label_places, labels_from}
use Rattle.c_core.proofs.checked.places_of_labels.Given as goal

abbrev pub invariant-loop-place : goal.invariant-loop-place
invariant-loop-place l = l.labels.items ++ labels_from l.place (drop l.place l.lines) ≡ label_places l.lines
