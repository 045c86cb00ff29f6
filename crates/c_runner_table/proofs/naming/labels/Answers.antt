use Rattle.std.proofs.Common.{◌∙◌, arith}
use Rattle.c_runner_table.proofs.TableLemmas.{label_more, other_more, other_line}
use Rattle.c_runner_table.proofs.naming.labels.Goals as goal
use Rattle.c_runner_table.proofs.naming.labels.Goals.{in-Label+in_ok-push, in_default}

pub loop-place-preserved : goal.loop-place-preserved
loop-place-preserved c =
    elim c.match-line.branch [
      | in-Label+in_ok-push w ↦
          w.labels-is ∙ w.in_ok-push.ensures.ok ∙ label_more c.args.lines.now c.loop-place.place c.index-lines-place.result c.loop-place.labels (omega arith) c.index-lines-place.is w.in-Label.is c.loop-place.invariant
      | in_default w ↦
          w.labels-is ∙ other_more c.args.lines.now c.loop-place.place c.index-lines-place.result c.loop-place.labels (omega arith) c.index-lines-place.is (other_line c.index-lines-place.result w.in_default.not-Label) c.loop-place.invariant
    ]
