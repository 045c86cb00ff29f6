use Rattle.std.proofs.Common.{◌≡◌, ◌++◌, map, drop}
use Rattle.py_syntax.specs.Expressions.{expr_tree}
use Rattle.py_binder.specs.Sights.{list_reads}
use Rattle.py_binder.specs.Collected.{sights_of}
use Rattle.py_binder.proofs.reads.read_each.Given as goal

abbrev pub invariant-loop-item : goal.invariant-loop-item
invariant-loop-item l =
    sights_of l.sights.items ++ list_reads l.manner (map expr_tree (drop l.item-index l.items))
    ≡ sights_of l.fn.sights.items ++ list_reads l.manner (map expr_tree l.items)
