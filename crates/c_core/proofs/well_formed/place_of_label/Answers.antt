use Rattle.std.proofs.Common.{◌<◌, length, arith, ap, ◌∙◌, slice_get, drop, ◌+◌}
use Rattle.c_core.specs.Functions.{labels_from}
use Rattle.c_core.proofs.LineLemmas.{found_here, not_here, passed_over}
use Rattle.c_core.proofs.well_formed.place_of_label.Goals as goal
use Rattle.c_core.proofs.well_formed.place_of_label.Goals.{then-is_label+else-others-eq0, else-is_label}

pub returns-then-others-eq0 : goal.returns-then-others-eq0
returns-then-others-eq0 c =
    let within : c.loop-place.place < length c.args.lines.now = omega arith in
    found_here c.args.lines.now c.loop-place.place c.index-lines-place.result within c.index-lines-place.is c.loop-place.others c.args.label c.is_label.result c.is_label.ensures c.if-is_label.true c.if-others-eq0.true c.loop-place.invariant

pub loop-place-preserved : goal.loop-place-preserved
loop-place-preserved c =
    let within : c.loop-place.place < length c.args.lines.now = omega arith in
    elim c.if-is_label.branch [
      | then-is_label+else-others-eq0 w ↦ ap (slice_get (labels_from (c.loop-place.place + 1) (drop (c.loop-place.place + 1) c.args.lines.now))) w.others-is ∙ not_here c.args.lines.now c.loop-place.place c.index-lines-place.result within c.index-lines-place.is c.loop-place.others c.args.label c.is_label.result c.is_label.ensures w.if-is_label.true w.if-others-eq0.false c.loop-place.invariant
      | else-is_label w ↦ ap (slice_get (labels_from (c.loop-place.place + 1) (drop (c.loop-place.place + 1) c.args.lines.now))) w.others-is ∙ passed_over c.args.lines.now c.loop-place.place c.index-lines-place.result within c.index-lines-place.is c.loop-place.others c.args.label c.is_label.result c.is_label.ensures w.if-is_label.false c.loop-place.invariant
    ]
