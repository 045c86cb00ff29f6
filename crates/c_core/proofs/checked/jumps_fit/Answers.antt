use Rattle.std.proofs.Common.{◌<◌, length, arith}
use Rattle.c_core.proofs.LineLemmas.{jumps_stop, jumps_more}
use Rattle.c_core.proofs.checked.jumps_fit.Goals as goal

pub returns-then-not-jump_fits : goal.returns-then-not-jump_fits
returns-then-not-jump_fits c =
    let within : c.loop-place.place < length c.args.lines.now = omega arith in
    jumps_stop c.args.lines.now c.loop-place.place c.index-lines-place.result within c.index-lines-place.is c.args.labels.now c.loop-place.after_turn c.jump_fits.result c.jump_fits.ensures c.if-not-jump_fits.true c.loop-place.invariant

pub loop-place-preserved : goal.loop-place-preserved
loop-place-preserved c =
    let within : c.loop-place.place < length c.args.lines.now = omega arith in
    jumps_more c.args.lines.now c.loop-place.place c.index-lines-place.result within c.index-lines-place.is c.args.labels.now c.loop-place.after_turn c.jump_fits.result c.is_turn-after_turn.result c.jump_fits.ensures c.if-not-jump_fits.false c.is_turn-after_turn.ensures c.loop-place.invariant
