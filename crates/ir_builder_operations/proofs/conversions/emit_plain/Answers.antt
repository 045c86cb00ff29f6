use Rattle.ir_builder_operations.proofs.Common.{◌∙◌, sym, sort}
use Rattle.ir_builder_operations.proofs.ConversionLemmas.{whole_fits, plain_stays}
use Rattle.ir_builder_operations.proofs.conversions.emit_plain.Goals as goal

pub emit_coercion-requires : goal.emit_coercion-requires
emit_coercion-requires c =
    let whole = sym c.is_whole.ensures ∙ c.if-is_whole.true in
    record { numeric = whole_fits (sort c.args.from.now) (sort c.args.to.now) c.requires.fits whole; whole = whole; value = c.requires.value }

pub returns-else-is_whole-clause-made : goal.returns-else-is_whole-clause-made
returns-else-is_whole-clause-made c = plain_stays (sort c.args.from.now) (sort c.args.to.now) _ c.args.x c.requires.fits c.requires.plain (sym c.is_whole.ensures ∙ c.if-is_whole.false) c.requires.value
