use Rattle.std.proofs.Common.{◌≡◌, ◌||◌, map, drop}
use Rattle.py_syntax.specs.Expressions.{expr_tree, exprs_of, arg_tree, arguments_of, comparisons_of, comparison_tree, entries_of, entry_tree}
use Rattle.py_binder.specs.Sights.{exprs_reads, comparisons_reads, entries_reads, arguments_reads}
use Rattle.py_binder.specs.declared.sight.Manner.TheVariants.{Annotation}
use Rattle.py_check_context.specs.Context.{context}
use Rattle.py_check_annotations.specs.Names.{any_unknown}
use Rattle.py_check_annotations.proofs.look_up.+look_up.Given as goal

abbrev pub invariant-look_up-operands : goal.invariant-look_up-operands
invariant-look_up-operands l =
    (l.found || any_unknown (context l.scope).meaning (comparisons_reads Annotation (comparisons_of (map comparison_tree (drop l.b-index l.more)))))
    ≡ (l.initial.found || any_unknown (context l.scope).meaning (comparisons_reads Annotation (comparisons_of (map comparison_tree l.more))))

abbrev pub invariant-look_up-entries : goal.invariant-look_up-entries
invariant-look_up-entries l =
    (l.found || any_unknown (context l.scope).meaning (entries_reads Annotation (entries_of (map entry_tree (drop l.key-index l.entries)))))
    ≡ (l.fn.found || any_unknown (context l.scope).meaning (entries_reads Annotation (entries_of (map entry_tree l.entries))))

abbrev pub invariant-look_up_all-loop-item : goal.invariant-look_up_all-loop-item
invariant-look_up_all-loop-item l =
    (l.found || any_unknown (context l.scope).meaning (exprs_reads Annotation (exprs_of (map expr_tree (drop l.item-index l.items)))))
    ≡ (l.fn.found || any_unknown (context l.scope).meaning (exprs_reads Annotation (exprs_of (map expr_tree l.items))))

abbrev pub invariant-look_up_arguments-loop-argument : goal.invariant-look_up_arguments-loop-argument
invariant-look_up_arguments-loop-argument l =
    (l.found || any_unknown (context l.scope).meaning (arguments_reads Annotation (arguments_of (map arg_tree (drop l.argument-index l.arguments)))))
    ≡ (l.fn.found || any_unknown (context l.scope).meaning (arguments_reads Annotation (arguments_of (map arg_tree l.arguments))))
