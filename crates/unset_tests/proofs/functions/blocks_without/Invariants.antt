use Rattle.std.proofs.Common.{◌≡◌, ◌++◌, length}
use Rattle.unset_tests.specs.Walk.{blocks_without}
use Rattle.unset_tests.proofs.functions.blocks_without.Given as goal

abbrev pub invariant-loop-block : goal.invariant-loop-block
invariant-loop-block l = record {
  can_next : (goal.iterator-loop-block).can_next l.block-iterator;
  is_finite : (goal.iterator-loop-block).is_finite l.block-iterator;
  blocks : l.done.items ++ blocks_without l.sure (length l.done.items) l.block-iterator.rest.items ≡ blocks_without l.sure 0 l.fn.blocks;
}
