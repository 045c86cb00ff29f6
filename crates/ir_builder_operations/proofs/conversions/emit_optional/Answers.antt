use Rattle.ir_builder_operations.proofs.Common.{◌∙◌, sym, sort, Reg, ok_map}
use Rattle.ir_builder_operations.proofs.ConversionLemmas.{plain_then, boxed_then, optional_stays}
use Rattle.ir_builder_operations.proofs.conversions.emit_optional.Goals as goal

pub emit_plain-requires : goal.emit_plain-requires
emit_plain-requires c =
    let plain = plain_then (sort c.args.from.now) (sort c.args.inner.now) _ (sym c.unboxed.ensures ∙ c.in-Some.is) c.requires.fits in
    record { fits = plain.0; plain = plain.1; value = c.requires.value }

pub returns-in_ok-y-in-Some-clause-made : goal.returns-in_ok-y-in-Some-clause-made
returns-in_ok-y-in-Some-clause-made c = ok_map _ _ _ (λ (r : Reg) a. boxed_then (sort c.args.from.now) (sort c.args.inner.now) _ _ _ c.args.x c.in_ok-y-in-Some.y r c.in_ok-y-in-Some.ensures.made a) c.emit_boxed.ensures.made

pub returns-in-None-clause-made : goal.returns-in-None-clause-made
returns-in-None-clause-made c = optional_stays (sort c.args.from.now) (sort c.args.inner.now) _ c.args.x (sym c.unboxed.ensures ∙ c.in-None.is) c.requires.fits c.requires.value
