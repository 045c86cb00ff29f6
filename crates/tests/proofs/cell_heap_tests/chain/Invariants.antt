use Rattle.std.proofs.Common.{◌≤◌, ◌+◌, length}
use Rattle.tests.proofs.cell_heap_tests.chain.Given as goal

abbrev pub invariant-link : goal.invariant-link
invariant-link l = length l.heap ≤ l._link + 1
