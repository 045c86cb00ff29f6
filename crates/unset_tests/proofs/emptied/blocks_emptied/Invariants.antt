use Rattle.std.proofs.Common.{◌≡◌, ◌++◌, length}
use Rattle.unset_tests.specs.Ways.{blocks_emptied}
use Rattle.unset_tests.proofs.emptied.blocks_emptied.Given as goal

abbrev pub invariant-loop-block : goal.invariant-loop-block
invariant-loop-block l = record {
  can_next : (goal.iterator-loop-block).can_next l.block-iterator;
  is_finite : (goal.iterator-loop-block).is_finite l.block-iterator;
  blocks : l.done.items ++ blocks_emptied l.reached (length l.done.items) l.block-iterator.rest.items ≡ blocks_emptied l.reached 0 l.fn.blocks;
}
