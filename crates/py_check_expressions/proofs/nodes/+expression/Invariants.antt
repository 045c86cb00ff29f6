use Rattle.std.proofs.Common.{◌≡◌, ◌++◌, ◌+◌, ◌*◌, max, map, drop}
use Rattle.std.specs.Option.{option_map}
use Rattle.py_syntax.specs.Expressions.{expr_tree, exprs_of, comparison_tree, comparisons_of, entry_tree, entries_of, arg_tree, arguments_of}
use Rattle.py_typed.specs.Expressions.{typed_expr, typed_entry}
use Rattle.py_check_context.specs.Context.{context, var_sorts, row}
use Rattle.py_check_messages.proofs.RowLemmas.{Remains}
use Rattle.py_check_operators.specs.Operands.{maybe_pair}
use Rattle.py_check_displays.specs.Dicts.{key_wanted, value_wanted}
use Rattle.py_check_displays.specs.Entries.{entry_types}
use Rattle.py_check_expressions.specs.Typing.{items, entries, operands, each_operand, arguments}
use denote.Param.Weighed.{most}
use Rattle.py_syntax.specs.declared.expression.Expr.{size-Expr}
use Rattle.py_syntax.specs.declared.expression.Arg.{size-Arg}
use Rattle.py_syntax.specs.declared.expression.ExprKind.{size-ExprKind}
use Rattle.py_check_expressions.proofs.SizeLemmas.{operand_size, entry_size}
use Rattle.py_check_expressions.proofs.nodes.+expression.Given as goal

abbrev pub decreases-expression : goal.decreases-expression
decreases-expression l = size-Expr l.e.now * 3

abbrev pub decreases-negated : goal.decreases-negated
decreases-negated l = size-Expr l.e.now * 3 + 1

abbrev pub decreases-affirmed : goal.decreases-affirmed
decreases-affirmed l = size-Expr l.e.now * 3 + 1

abbrev pub decreases-inverted : goal.decreases-inverted
decreases-inverted l = size-Expr l.e.now * 3 + 1

abbrev pub decreases-member : goal.decreases-member
decreases-member l = size-Expr l.e.now * 3 + 1

abbrev pub decreases-computed : goal.decreases-computed
decreases-computed l = max (size-Expr l.a.now) (size-Expr l.b.now) * 3 + 1

abbrev pub decreases-indexed : goal.decreases-indexed
decreases-indexed l = max (size-Expr l.e.now) (size-Expr l.i.now) * 3 + 1

abbrev pub decreases-joined : goal.decreases-joined
decreases-joined l = max (size-Expr l.a.now) (size-Expr l.b.now) * 3 + 2

abbrev pub decreases-chosen : goal.decreases-chosen
decreases-chosen l = max (size-Expr l.a.now) (max (size-Expr l.t.now) (size-Expr l.b.now)) * 3 + 2

abbrev pub decreases-narrowed : goal.decreases-narrowed
decreases-narrowed l = size-Expr l.e.now * 3 + 1

abbrev pub decreases-compared : goal.decreases-compared
decreases-compared l = max (size-Expr l.e.now) (most operand_size l.cs.now) * 3 + 2

abbrev pub decreases-operands : goal.decreases-operands
decreases-operands l = most operand_size l.cs.now * 3 + 1

abbrev pub decreases-list : goal.decreases-list
decreases-list l = most size-Expr l.es.now * 3 + 2

abbrev pub decreases-tuple : goal.decreases-tuple
decreases-tuple l = most size-Expr l.es.now * 3 + 2

abbrev pub decreases-items : goal.decreases-items
decreases-items l = most size-Expr l.es.now * 3 + 1

abbrev pub decreases-dict : goal.decreases-dict
decreases-dict l = most entry_size l.es.now * 3 + 2

abbrev pub decreases-entries : goal.decreases-entries
decreases-entries l = most entry_size l.es.now * 3 + 1

abbrev pub decreases-call : goal.decreases-call
decreases-call l = max (size-Expr l.f.now) (most size-Arg l.args.now) * 3 + 2

abbrev pub decreases-part : goal.decreases-part
decreases-part l = size-Expr l.f.now * 3 + 1

abbrev pub decreases-receiver : goal.decreases-receiver
decreases-receiver l = size-ExprKind l.f.now * 3

abbrev pub decreases-arguments : goal.decreases-arguments
decreases-arguments l = most size-Arg l.args.now * 3

abbrev pub invariant-operands-loop-op : goal.invariant-operands-loop-op
invariant-operands-loop-op l = record {
  each : map maybe_pair l.found ++ each_operand (context l.environment.scope.now) (var_sorts l.environment.vars.now) l.environment.known.now (comparisons_of (map comparison_tree (drop l.op-index l.cs))) ≡ each_operand (context l.environment.scope.now) (var_sorts l.environment.vars.now) l.environment.known.now (comparisons_of (map comparison_tree l.cs));
  told : l.fn.faults ++ (operands (context l.environment.scope.now) (var_sorts l.environment.vars.now) l.environment.known.now (comparisons_of (map comparison_tree l.cs))).said ≡ l.faults ++ (operands (context l.environment.scope.now) (var_sorts l.environment.vars.now) l.environment.known.now (comparisons_of (map comparison_tree (drop l.op-index l.cs)))).said;
}

abbrev pub invariant-items-loop-i : goal.invariant-items-loop-i
invariant-items-loop-i l =
    Remains (option_map (map typed_expr) l.found) l.fn.faults l.faults
    (items (context l.environment.scope.now) (var_sorts l.environment.vars.now) (row l.asked) 0 l.environment.known.now (exprs_of (map expr_tree l.es)))
    (items (context l.environment.scope.now) (var_sorts l.environment.vars.now) (row l.asked) l.i l.environment.known.now (exprs_of (map expr_tree (drop l.i l.es))))

abbrev pub invariant-entries-loop-k : goal.invariant-entries-loop-k
invariant-entries-loop-k l =
    Remains (option_map (map typed_entry) l.found) l.fn.faults l.faults
    (entries (context l.environment.scope.now) (var_sorts l.environment.vars.now) (key_wanted (option_map entry_types l.expected)) (value_wanted (option_map entry_types l.expected)) l.environment.known.now (entries_of (map entry_tree l.es)))
    (entries (context l.environment.scope.now) (var_sorts l.environment.vars.now) (key_wanted (option_map entry_types l.expected)) (value_wanted (option_map entry_types l.expected)) l.environment.known.now (entries_of (map entry_tree (drop l.k-index l.es))))

abbrev pub invariant-arguments-loop-i : goal.invariant-arguments-loop-i
invariant-arguments-loop-i l =
    Remains (option_map (map typed_expr) l.found) l.fn.faults l.faults
    (arguments (context l.environment.scope.now) (var_sorts l.environment.vars.now) (row l.asked) 0 l.environment.known.now (arguments_of (map arg_tree l.args)))
    (arguments (context l.environment.scope.now) (var_sorts l.environment.vars.now) (row l.asked) l.i l.environment.known.now (arguments_of (map arg_tree (drop l.i l.args))))
