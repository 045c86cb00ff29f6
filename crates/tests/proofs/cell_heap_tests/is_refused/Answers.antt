use Rattle.std.proofs.Common.{arith}
use Rattle.cell_heap.specs.Contents.{name_of}
use Rattle.cell_heap.proofs.OursLemmas.{no_count}
use Rattle.tests.proofs.cell_heap_tests.is_refused.Goals as goal

pub take-requires : goal.take-requires
take-requires c = omega (arith, no_count c.args.heap.now (name_of c.args.key) c.requires)
