use Rattle.std.proofs.Common.{◌≡◌, ◌++◌, map, drop}
use Rattle.py_syntax.specs.Expressions.{expr_tree, exprs_of}
use Rattle.py_syntax.specs.Statements.{param_tree}
use Rattle.py_check_members.specs.Deeds.{row_targets}
use Rattle.py_check_members.specs.Views.{events_of}
use Rattle.py_check_members.proofs.events.+targets.Given as goal

abbrev pub invariant-add_row-loop-item : goal.invariant-add_row-loop-item
invariant-add_row-loop-item l =
    events_of l.found.items ++ row_targets l.object.name.now (map param_tree l.object.params.now) (exprs_of (map expr_tree (drop l.item-index l.items)))
    ≡ events_of l.fn.found.items ++ row_targets l.object.name.now (map param_tree l.object.params.now) (exprs_of (map expr_tree l.items))
