use Rattle.std.proofs.Common.{◌≡◌, map, drop}
use Rattle.py_syntax.specs.Expressions.{expr_tree, exprs_of}
use Rattle.py_check_places.specs.Shapes.{no_rows}
use Rattle.py_check_places.proofs.shapes.no_rows.Given as goal

abbrev pub invariant-loop-item : goal.invariant-loop-item
invariant-loop-item l = no_rows (exprs_of (map expr_tree (drop l.item-index l.items))) ≡ no_rows (exprs_of (map expr_tree l.items))
