use Rattle.std.proofs.Common.{◌≡◌, drop, slice_get}
use Rattle.c_core.specs.Functions.{label_places, labels_from}
use Rattle.c_core.proofs.well_formed.place_of_label.Given as goal

-- the label is the one behind so many others of those that are left
abbrev pub invariant-loop-place : goal.invariant-loop-place
invariant-loop-place l =
    slice_get (labels_from l.place (drop l.place l.lines)) l.others ≡ slice_get (label_places l.lines) l.label
