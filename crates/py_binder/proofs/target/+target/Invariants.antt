use Rattle.std.proofs.Common.{◌≡◌, ◌++◌, map, drop}
use Rattle.py_syntax.specs.Expressions.{expr_tree, exprs_of}
use Rattle.py_binder.specs.Sights.{targets_sights}
use Rattle.py_binder.specs.Collected.{sights_of}
use Rattle.py_binder.proofs.target.+target.Given as goal

abbrev pub invariant-see_targets-loop-item : goal.invariant-see_targets-loop-item
invariant-see_targets-loop-item l =
    sights_of l.sights.items ++ targets_sights (exprs_of (map expr_tree (drop l.item-index l.items)))
    ≡ sights_of l.fn.sights.items ++ targets_sights (exprs_of (map expr_tree l.items))
