use Rattle.std.proofs.Common.{map, drop}
use Rattle.std.specs.Option.{option_map}
use Rattle.py_typed.specs.Classes.{class_entry}
use Rattle.py_check_coercions.specs.Boxes.{boxed}
use Rattle.py_check_operators.specs.Chains as rule_of
use Rattle.py_check_operators.specs.Operands.{maybe_pair}
use Rattle.py_check_operators.proofs.ChainLemmas.{Stays}
use Rattle.py_check_operators.proofs.chains.pairs_hold.Given as goal

abbrev pub invariant-loop-op : goal.invariant-loop-op
invariant-loop-op l =
    Stays l.right l.fn.faults l.faults l.span (rule_of.pairs_faults (map class_entry l.classes.list) (option_map boxed l.first) (map maybe_pair l.more))
    (rule_of.pairs_faults (map class_entry l.classes.list) (option_map boxed l.left) (map maybe_pair (drop l.op-index l.more)))
