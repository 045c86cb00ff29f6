use Rattle.std.proofs.Common.{take}
use Rattle.refcount_insert_rule.specs.Rule.{given_up, AreUnsure}
use Rattle.refcount_insert_counts.specs.Known.{held_at, entered}
use Rattle.refcount_insert_counts.specs.Counts.{AreEach, short_on, over_on}
use Rattle.refcount_insert_counts.proofs.edges.edge_counts.Given as goal

abbrev pub invariant-loop-r : goal.invariant-loop-r
invariant-loop-r l = record {
  short : AreEach (short_on l.skip (held_at l.known l.regs l.b l.p) (entered l.known l.regs l.t)) (take l.r-index l.fn.all) l.ups.items;
  over : AreEach (over_on l.skip (held_at l.known l.regs l.b l.p) (entered l.known l.regs l.t)) (take l.r-index l.fn.all) (given_up l.downs.items);
  unsure : AreUnsure l.downs.items;
}
