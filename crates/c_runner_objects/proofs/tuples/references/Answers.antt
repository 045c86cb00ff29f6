use Rattle.std.proofs.Common.{arith}
use Rattle.c_runner_objects.proofs.TupleLemmas.{counted_next}
use Rattle.c_runner_objects.proofs.tuples.references.Goals as goal

pub loop-word-preserved : goal.loop-word-preserved
loop-word-preserved c = record {
  counted = counted_next c.args.words.now c.args.serial c.loop-word.word-index _ c.loop-word.count c.references_of-count.result _ (omega arith) c.loop-word.invariant.counted c.references_of-count.ensures.counted;
  few = omega arith;
}
