use Rattle.std.proofs.Common.{◌≡◌, take, length}
use Rattle.refcount_insert.specs.Sharing.{AreProper}
use Rattle.refcount_insert.specs.Plan.{ArePlanned}
use Rattle.refcount_insert.proofs.plan.plan.Given as goal

abbrev pub invariant-loop-b : goal.invariant-loop-b
invariant-loop-b l = record {
  planned : ArePlanned l.known l.regs l.kept.items 0 (take l.b l.blocks) l.all.items;
  proper : AreProper l.known l.regs l.kept.items;
  size : length l.kept.items ≡ length l.blocks;
}
