use Rattle.std.proofs.Common.{◌<◌, length, arith}
use Rattle.c_core.specs.WellFormed.{trait_fits}
use Rattle.c_core.proofs.LineLemmas.{all_stop, all_more}
use Rattle.c_core.proofs.checked.traits_fit.Goals as goal

pub returns-then-not-trait_fits : goal.returns-then-not-trait_fits
returns-then-not-trait_fits c =
    let within : c.loop-entry.entry-index < length c.args.traits.now = omega arith in
    all_stop (trait_fits c.args.code.now) c.args.traits.now c.loop-entry.entry-index c.entry-item.result c.trait_fits.result within c.entry-item.is c.trait_fits.ensures c.loop-entry.invariant c.if-not-trait_fits.true

pub loop-entry-preserved : goal.loop-entry-preserved
loop-entry-preserved c =
    let within : c.loop-entry.entry-index < length c.args.traits.now = omega arith in
    all_more (trait_fits c.args.code.now) c.args.traits.now c.loop-entry.entry-index c.entry-item.result c.trait_fits.result within c.entry-item.is c.trait_fits.ensures c.loop-entry.invariant c.if-not-trait_fits.false
