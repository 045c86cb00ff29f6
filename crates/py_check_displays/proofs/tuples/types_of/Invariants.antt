use Rattle.std.proofs.Common.{◌≡◌, ◌++◌, map, drop}
use Rattle.py_typed.specs.Sorts.{sort}
use Rattle.py_typed.specs.Expressions.{typed_expr, type_of}
use Rattle.py_check_displays.proofs.tuples.types_of.Given as goal

abbrev pub invariant-loop-e : goal.invariant-loop-e
invariant-loop-e l = map sort l.ts ++ map type_of (map typed_expr (drop l.e-index l.es)) ≡ map type_of (map typed_expr l.es)
