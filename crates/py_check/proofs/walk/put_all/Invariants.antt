use Rattle.std.proofs.Common.{◌≡◌, ◌++◌, length}
use Rattle.std.specs.Vec.Iter.{into_iter_items, into_iter_len}
use Rattle.py_check.proofs.walk.put_all.Given as goal

abbrev pub invariant-loop-s : goal.invariant-loop-s
invariant-loop-s l = record {
  rest : l.found ++ into_iter_items l.s-iterator ≡ l.fn.found ++ l.fn.more;
  left : into_iter_len l.s-iterator ≡ length (into_iter_items l.s-iterator);
}
