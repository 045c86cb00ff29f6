use Rattle.std.proofs.Common.{◌+◌, length}
use Rattle.unset_tests.specs.Ways.{led_from}
use Rattle.unset_tests.proofs.Marking.{Marking, weight}
use Rattle.unset_tests.proofs.marks.spread.Given as goal

abbrev pub invariant-loop-t : goal.invariant-loop-t
invariant-loop-t l = Marking (length l.blocks) (led_from l.regs l.blocks l.followed) l.fn.work.items l.marks.items l.work.items

abbrev pub decreases-loop-t : goal.decreases-loop-t
decreases-loop-t l = weight l.marks.items + length l.work.items
