use Rattle.std.proofs.Common.{arith}
use Rattle.cell_heap.specs.Contents.{optional_refs}
use Rattle.cell_heap.proofs.ReleaseLemmas.{optional_next}
use Rattle.cell_heap.proofs.release.lower_attributes.Goals as goal

pub loop-attribute-preserved : goal.loop-attribute-preserved
loop-attribute-preserved c =
    optional_next c.args.attributes.now c.loop-attribute.attribute-index _ (optional_refs c.args.attributes.now) c.args.cells.now c.loop-attribute.cells c.lower_optional.new.cells (omega arith) c.lower_optional.ensures c.loop-attribute.invariant
