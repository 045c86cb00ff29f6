use Rattle.std.proofs.Common.{map, drop}
use Rattle.std.specs.Option.{option_map}
use Rattle.py_syntax.specs.Expressions.{expr_tree, exprs_of}
use Rattle.py_typed.specs.Sorts.{sort}
use Rattle.py_check_context.specs.Context.{context}
use Rattle.py_check_messages.proofs.RowLemmas.{Remains}
use Rattle.py_check_annotations.specs.Annotations.{row}
use Rattle.py_check_annotations.proofs.annotations.+annotation.Given as goal

abbrev pub invariant-row-loop-item : goal.invariant-row-loop-item
invariant-row-loop-item l =
    Remains (option_map (map sort) l.types) l.initial.faults l.faults (row (context l.scope).meaning (exprs_of (map expr_tree l.items))) (row (context l.scope).meaning (exprs_of (map expr_tree (drop l.item-index l.items))))
