use Rattle.std.proofs.Common.{◌≡◌, ◌++◌, map, drop}
use Rattle.py_syntax.specs.Expressions.{expr_tree, exprs_of}
use Rattle.py_check_places.specs.Shapes.{row_leaves}
use Rattle.py_check_places.specs.Views.{trees}
use Rattle.py_check_places.proofs.shapes.+leaves.Given as goal

abbrev pub invariant-put_row-loop-item : goal.invariant-put_row-loop-item
invariant-put_row-loop-item l =
    trees l.found.items ++ row_leaves (exprs_of (map expr_tree (drop l.item-index l.items)))
    ≡ trees l.fn.found.items ++ row_leaves (exprs_of (map expr_tree l.items))
