use Rattle.std.proofs.Common.{arith}
use Rattle.cell_heap.specs.Contents.{pairs_refs}
use Rattle.cell_heap.proofs.ReleaseLemmas.{pair_next}
use Rattle.cell_heap.proofs.release.lower_pairs.Goals as goal

pub loop-pair-preserved : goal.loop-pair-preserved
loop-pair-preserved c =
    pair_next c.args.pairs.now c.loop-pair.pair-index _ (pairs_refs c.args.pairs.now) c.args.cells.now c.loop-pair.cells c.lower_word.new.cells c.lower_word-in-loop-pair.new.cells (omega arith) c.lower_word.ensures c.lower_word-in-loop-pair.ensures c.loop-pair.invariant
