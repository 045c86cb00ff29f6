use Rattle.std.proofs.Common.{◌∙◌, refl}
use Rattle.ir_core.specs.Bare.{bare}
use Rattle.ir_core.proofs.BareLemmas.{func_fits}
use Rattle.refcount_insert.proofs.BlockLemmas.{counted_by, laid_is_bare}
use Rattle.refcount_insert.proofs.functions.counted_function.Goals as goal

pub returns : goal.returns
returns c =
    let f = c.args.f.now in
    let made = c.in_ok-blocks.ensures.laid in
    counted_by (bare f) _ made.0 made.1 (func_fits f c.requires) (laid_is_bare made.0 f.regs f.blocks _ made.2) (c.in_ok-name.ensures ∙ c.as_str.ensures) refl refl (c.in_ok-regs.ensures ∙ c.as_slice.ensures) c.in_ok-blocks.ensures.few
