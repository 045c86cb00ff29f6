use Rattle.std.proofs.Common.{◌≡◌, ◌++◌, map, drop}
use Rattle.std.specs.Str.{bytes_eq}
use Rattle.indexmap.specs.IndexMap.{get}
use Rattle.py_syntax.specs.Expressions.{expr_tree}
use Rattle.py_check_classes.specs.Names.{class_named}
use Rattle.py_check_classes.proofs.names.classes_named.Given as goal

abbrev pub invariant-loop-e : goal.invariant-loop-e
invariant-loop-e l =
    l.numbers ++ map (class_named (get bytes_eq l.said)) (map expr_tree (drop l.e-index l.bases)) ≡ map (class_named (get bytes_eq l.said)) (map expr_tree l.bases)
