use Rattle.std.proofs.Common.{◌+◌, take}
use Rattle.liveness.specs.Paths.{write_of}
use Rattle.refcount_insert_rule.specs.Rule.{counts_after, given_up, AreSure}
use Rattle.refcount_insert_rule.specs.Counted.{counts_register}
use Rattle.refcount_insert_counts.specs.Known.{owned_at}
use Rattle.refcount_insert_counts.specs.Counts.{AreEach}
use Rattle.refcount_insert_counts.proofs.groups.group_downs.Given as goal

abbrev pub invariant-loop-r : goal.invariant-loop-r
invariant-loop-r l = record {
  each : AreEach (counts_after (counts_register l.regs) l.op (owned_at l.known l.regs l.b l.p) (owned_at l.known l.regs l.b (l.p + 1))) (take l.r-index l.touched) (given_up l.downs.items);
  sure : AreSure (write_of l.op) l.downs.items;
}
