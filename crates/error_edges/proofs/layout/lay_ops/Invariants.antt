use Rattle.std.proofs.Common.{drop, ◌≡◌, ◌++◌, [], ◌+◌, length}
use Rattle.error_edges.specs.Layout.{cut}
use Rattle.error_edges.proofs.layout.lay_ops.Given as goal

abbrev pub invariant-loop-op : goal.invariant-loop-op
invariant-loop-op l =
    record {
      can_next : (goal.iterator-loop-op).can_next l.op-iterator;
      is_finite : (goal.iterator-loop-op).is_finite l.op-iterator;
      left : length l.op-iterator.rest.items + l.i ≡ length l.edges;
      blocks : l.blocks.items ++ cut l.target l.flag l.op-iterator.rest.items (drop l.i l.edges) l.last (length l.blocks.items) l.done.items ≡ l.initial.blocks.items ++ cut l.target l.flag l.fn.ops.items l.edges l.last (length l.initial.blocks.items) [];
    }
