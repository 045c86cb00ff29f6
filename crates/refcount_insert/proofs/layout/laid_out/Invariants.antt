use Rattle.std.proofs.Common.{◌≡◌, ◌++◌, drop, length}
use Rattle.refcount_insert.specs.Layout.{numbers_from, number_at, all_laid}
use Rattle.refcount_insert.proofs.layout.laid_out.Given as goal

abbrev pub invariant-loop-p : goal.invariant-loop-p
invariant-loop-p l = record {
  can_next : (goal.iterator-loop-p).can_next l.p-iterator;
  is_finite : (goal.iterator-loop-p).is_finite l.p-iterator;
  items : l.yielded ++ l.p-iterator.rest.items ≡ l.fn.planned.items;
  place : l.b ≡ length l.yielded;
  blocks : l.blocks.items ++ all_laid (number_at l.numbers.items) l.fronts l.b (drop l.b l.fronts) l.p-iterator.rest.items ≡ all_laid (number_at (numbers_from 0 l.fronts)) l.fronts 0 l.fronts l.fn.planned.items;
}
