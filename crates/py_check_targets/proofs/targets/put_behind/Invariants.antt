use Rattle.std.proofs.Common.{◌≡◌, ◌++◌, length}
use Rattle.std.specs.Vec.Iter.{into_iter_items, into_iter_len}
use Rattle.py_check_targets.proofs.targets.put_behind.Given as goal

abbrev pub invariant-loop-fault : goal.invariant-loop-fault
invariant-loop-fault l = record {
  rest : l.faults ++ into_iter_items l.fault-iterator ≡ l.fn.faults ++ l.fn.more;
  left : into_iter_len l.fault-iterator ≡ length (into_iter_items l.fault-iterator);
}
