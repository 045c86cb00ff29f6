use Rattle.std.proofs.Common.{◌≡◌, ◌++◌, drop}
use Rattle.py_binder.proofs.names.add_all.Given as goal

abbrev pub invariant-loop-name : goal.invariant-loop-name
invariant-loop-name l = l.names.items ++ drop l.name-index l.more ≡ l.fn.names.items ++ l.more
