use Rattle.std.proofs.Common.{◌<◌, length, arith}
use Rattle.c_core.specs.WellFormed.{line_fits}
use Rattle.c_core.proofs.LineLemmas.{all_stop, all_more}
use Rattle.c_core.proofs.checked.lines_fit.Goals as goal

pub returns-then-not-line_fits : goal.returns-then-not-line_fits
returns-then-not-line_fits c =
    let within : c.loop-line.line-index < length c.args.lines.now = omega arith in
    all_stop (line_fits c.args.code.now c.args.vars.now c.args.ret) c.args.lines.now c.loop-line.line-index c.line-item.result c.line_fits.result within c.line-item.is c.line_fits.ensures c.loop-line.invariant c.if-not-line_fits.true

pub loop-line-preserved : goal.loop-line-preserved
loop-line-preserved c =
    let within : c.loop-line.line-index < length c.args.lines.now = omega arith in
    all_more (line_fits c.args.code.now c.args.vars.now c.args.ret) c.args.lines.now c.loop-line.line-index c.line-item.result c.line_fits.result within c.line-item.is c.line_fits.ensures c.loop-line.invariant c.if-not-line_fits.false
