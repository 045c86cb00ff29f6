use Rattle.std.proofs.Common.{drop, ◌≡◌, ◌+◌}
use Rattle.error_edges.specs.Layout.{room}
use Rattle.error_edges.proofs.plan.behind.Given as goal

abbrev pub invariant-loop-edge : goal.invariant-loop-edge
invariant-loop-edge l = l.number + room (drop l.edge-index l.edges) ≡ l.fn.first + room l.edges + 1
