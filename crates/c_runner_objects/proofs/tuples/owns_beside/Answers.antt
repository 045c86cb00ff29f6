use Rattle.std.specs.Prelude.{map}
use Rattle.cell_heap.specs.Contents.{word_of}
use Rattle.c_runner_objects.proofs.TupleLemmas.{owned_beside}
use Rattle.c_runner_objects.proofs.tuples.owns_beside.Goals as goal

pub returns-in-Big : goal.returns-in-Big
returns-in-Big c =
    λ all. owned_beside (map word_of c.args.words.now) c.args.frame.now.ledger c.args.word c.in-Big.key c.number_of-serial.result c.references.result c.owns_more_than.result c.in-Big.is c.number_of-serial.ensures c.references.ensures c.owns_more_than.ensures all
