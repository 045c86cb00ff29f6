use Rattle.std.proofs.Common.{◌≤◌}
use Rattle.slot_arena.specs.Contents.{inserts}
use Rattle.tests.proofs.slot_arena_tests.each_value_is_dropped_once.Given as goal

abbrev pub invariant-loop-value : goal.invariant-loop-value
invariant-loop-value g l = inserts l.arena ≤ l.value
