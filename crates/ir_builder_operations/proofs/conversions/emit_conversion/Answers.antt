use Rattle.ir_builder_operations.proofs.ConversionLemmas.{plain_left}
use Rattle.ir_builder_operations.proofs.conversions.emit_conversion.Goals as goal

pub emit_plain-requires : goal.emit_plain-requires
emit_plain-requires c = record { fits = c.requires.fits; plain = plain_left c.args.to.now c.in_default.not-Optional; value = c.requires.value }
