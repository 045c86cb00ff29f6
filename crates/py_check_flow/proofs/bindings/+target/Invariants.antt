use Rattle.std.proofs.Common.{◌≡◌, ◌++◌, map, drop}
use Rattle.py_syntax.specs.Expressions.{expr_tree, exprs_of}
use Rattle.py_check_flow.specs.Bindings.{bindings_of, targets_bindings}
use Rattle.py_check_flow.proofs.bindings.+target.Given as goal

abbrev pub invariant-bind_targets-loop-item : goal.invariant-bind_targets-loop-item
invariant-bind_targets-loop-item l =
    bindings_of l.found.items ++ targets_bindings (exprs_of (map expr_tree (drop l.item-index l.items)))
    ≡ bindings_of l.fn.found.items ++ targets_bindings (exprs_of (map expr_tree l.items))
