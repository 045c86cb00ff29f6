use Rattle.std.proofs.Common.{◌≡◌, ◌++◌, map, drop}
use Rattle.py_syntax.specs.Expressions.{expr_tree, exprs_of, arg_tree, arguments_of, comparisons_of, comparison_tree, entries_of, entry_tree}
use Rattle.py_binder.specs.Sights.{exprs_reads, comparisons_reads, entries_reads, arguments_reads}
use Rattle.py_binder.specs.Collected.{sights_of}
use Rattle.py_binder.proofs.reads.+read.Given as goal

abbrev pub invariant-read-operands : goal.invariant-read-operands
invariant-read-operands l =
    sights_of l.sights.items ++ comparisons_reads l.manner (comparisons_of (map comparison_tree (drop l.b-index l.more)))
    ≡ sights_of l.initial.sights.items ++ comparisons_reads l.manner (comparisons_of (map comparison_tree l.more))

abbrev pub invariant-read-entries : goal.invariant-read-entries
invariant-read-entries l =
    sights_of l.sights.items ++ entries_reads l.manner (entries_of (map entry_tree (drop l.key-index l.entries)))
    ≡ sights_of l.fn.sights.items ++ entries_reads l.manner (entries_of (map entry_tree l.entries))

abbrev pub invariant-read_all-loop-item : goal.invariant-read_all-loop-item
invariant-read_all-loop-item l =
    sights_of l.sights.items ++ exprs_reads l.manner (exprs_of (map expr_tree (drop l.item-index l.items)))
    ≡ sights_of l.fn.sights.items ++ exprs_reads l.manner (exprs_of (map expr_tree l.items))

abbrev pub invariant-read_arguments-loop-argument : goal.invariant-read_arguments-loop-argument
invariant-read_arguments-loop-argument l =
    sights_of l.sights.items ++ arguments_reads l.manner (arguments_of (map arg_tree (drop l.argument-index l.arguments)))
    ≡ sights_of l.fn.sights.items ++ arguments_reads l.manner (arguments_of (map arg_tree l.arguments))
