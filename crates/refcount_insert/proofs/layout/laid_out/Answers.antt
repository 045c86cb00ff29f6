use Rattle.std.proofs.Common.{◌∙◌, sym}
use Rattle.refcount_insert.specs.Layout.{number_at}
use Rattle.refcount_insert.proofs.Laying.{laid_done}
use Rattle.refcount_insert.proofs.layout.laid_out.Goals as goal

pub returns : goal.returns
returns c =
    c.from_vec.ensures ∙ laid_done (number_at c.in_ok-numbers.numbers.items) c.args.fronts.now c.loop-p.b c.loop-p.p-iterator.rest.items c.loop-p.blocks.items _ (sym c.loop-p.p-iterator.rest.ok.0 ∙ c.in-None.ensures.steps.0) c.loop-p.invariant.blocks
