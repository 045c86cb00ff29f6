use Rattle.std.proofs.Common.{arith}
use Rattle.slot_arena.specs.Contents.{value_at}
use Rattle.cell_heap.proofs.ReleaseLemmas.{more_than_one, count_gives, none_shared}
use Rattle.cell_heap.proofs.release.lower_count.Goals as goal

pub overflow_sub-cell : goal.overflow_sub-cell
overflow_sub-cell c =
    omega (arith, more_than_one c.in-Some.cell.now (value_at c.args.cells.now c.args.key) c.in-Some.ensures.cell c.requires)

pub returns-in-Some : goal.returns-in-Some
returns-in-Some c =
    count_gives c.args.cells.now c.args.key c.in-Some.cell.now c.lookup_mut.ensures.named c.in-Some.ensures.cell c.requires

pub returns-in-None : goal.returns-in-None
returns-in-None c = absurd (none_shared c.args.cells.now c.args.key c.in-None.ensures.cell c.requires)
