use Rattle.std.proofs.Common.{◌≡◌, length}
use Rattle.std.specs.Prelude.{◌||◌}
use Rattle.unset_tests.specs.Walk.{end_unset, caught_unset}
use Rattle.unset_tests.proofs.walk.walk.Given as goal

abbrev pub invariant-loop-first : goal.invariant-loop-first
invariant-loop-first l = record {
  at_end : end_unset l.regs l.r l.block.last l.rest l.unset ≡ end_unset l.regs l.r l.block.last l.block.ops l.before;
  caught : (l.caught || caught_unset l.regs l.r l.block.last l.rest l.unset) ≡ caught_unset l.regs l.r l.block.last l.block.ops l.before;
}

abbrev pub decreases-loop-first : goal.decreases-loop-first
decreases-loop-first l = length l.rest
