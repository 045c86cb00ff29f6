use Rattle.std.proofs.Common.{arith}
use Rattle.cell_heap.specs.Contents.{words_refs}
use Rattle.cell_heap.proofs.ReleaseLemmas.{word_next}
use Rattle.cell_heap.proofs.release.lower_words.Goals as goal

pub loop-word-preserved : goal.loop-word-preserved
loop-word-preserved c =
    word_next c.args.words.now c.loop-word.word-index _ (words_refs c.args.words.now) c.args.cells.now c.loop-word.cells c.lower_word.new.cells (omega arith) c.lower_word.ensures c.loop-word.invariant
