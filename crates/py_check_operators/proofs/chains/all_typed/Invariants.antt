use Rattle.std.proofs.Common.{◌≡◌, map, length}
use Rattle.std.specs.Option.{option_map}
use Rattle.std.specs.Vec.Iter.{into_iter_items, into_iter_len}
use Rattle.py_check_messages.specs.Rows.{appended}
use Rattle.py_check_coercions.specs.Boxes.{operand_pair}
use Rattle.py_check_operators.specs.Chains as rule_of
use Rattle.py_check_operators.specs.Operands.{maybe_pair}
use Rattle.py_check_operators.proofs.chains.all_typed.Given as goal

abbrev pub invariant-loop-op : goal.invariant-loop-op
invariant-loop-op l = record {
  rest : appended (option_map (map operand_pair) l.found) (rule_of.all_typed (map maybe_pair (into_iter_items l.op-iterator))) ≡ rule_of.all_typed (map maybe_pair l.fn.more);
  left : into_iter_len l.op-iterator ≡ length (into_iter_items l.op-iterator);
}
