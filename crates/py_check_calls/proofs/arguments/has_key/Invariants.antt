use Rattle.std.proofs.Common.{◌≡◌, map, drop}
use Rattle.py_syntax.specs.Expressions.{arg_tree, arguments_of}
use Rattle.py_check_calls.specs.Callees as callees
use Rattle.py_check_calls.proofs.arguments.has_key.Given as goal

abbrev pub invariant-loop-arg : goal.invariant-loop-arg
invariant-loop-arg l = callees.has_key (arguments_of (map arg_tree (drop l.arg-index l.args))) ≡ callees.has_key (arguments_of (map arg_tree l.args))
