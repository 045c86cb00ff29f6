use Rattle.std.proofs.Common.{◌≡◌, ◌++◌}
use Rattle.unset_tests.specs.Alike.{AreEach}
use Rattle.unset_tests.specs.Cleared.{IsCleared}
use Rattle.unset_tests.proofs.functions.program_cleared.Given as goal

abbrev pub invariant-loop-func : goal.invariant-loop-func
invariant-loop-func l = record {
  can_next : (goal.iterator-loop-func).can_next l.func-iterator;
  is_finite : (goal.iterator-loop-func).is_finite l.func-iterator;
  each : AreEach IsCleared l.yielded l.done.items;
  left : l.yielded ++ l.func-iterator.rest.items ≡ l.fn.p.funcs;
}
