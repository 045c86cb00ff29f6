use Rattle.std.proofs.Common.{◌≡◌, ◌++◌, map, length}
use Rattle.std.specs.Vec.Iter.{into_iter_items, into_iter_len}
use Rattle.py_typed.specs.Statements.{typed_target}
use Rattle.py_check_targets.specs.Targets.{targets_of}
use Rattle.py_check_values.specs.Aims.{aim_seen}
use Rattle.py_check_loops.proofs.head.targets_of.Given as goal

abbrev pub invariant-loop-a : goal.invariant-loop-a
invariant-loop-a l = record {
  rest : map typed_target l.found ++ targets_of (map aim_seen (into_iter_items l.a-iterator)) ≡ targets_of (map aim_seen l.fn.aims);
  left : into_iter_len l.a-iterator ≡ length (into_iter_items l.a-iterator);
}
