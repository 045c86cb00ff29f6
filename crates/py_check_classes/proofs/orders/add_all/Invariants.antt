use Rattle.std.proofs.Common.{◌≡◌, ◌++◌, drop}
use Rattle.py_check_classes.proofs.orders.add_all.Given as goal

abbrev pub invariant-loop-class : goal.invariant-loop-class
invariant-loop-class l = l.row ++ drop l.class-index l.rest ≡ l.fn.row ++ l.rest
