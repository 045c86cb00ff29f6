use Rattle.std.proofs.Common.{◌≡◌, ◌∙◌, ◌+◌, ◌∷◌, ◌++◌, [], rules, sym, ap, map, drop, length, Option, Some, List, subst, IfOk}
use Rattle.std.proofs.lemmas.List.{append_assoc, map-append}
use Rattle.std.specs.Option.{option_map, option_zip}
use Rattle.py_syntax.specs.declared.expression.CmpOp.{CmpOp}
use Rattle.py_syntax.specs.declared.expression.Expr.{Expr}
use Rattle.py_syntax.specs.declared.expression.Arg.{Arg, out-Arg}
use Rattle.py_syntax.specs.Expressions as tree
use Rattle.py_syntax.specs.Expressions.{expr_tree, exprs_of, comparison_tree, comparisons_of, entry_tree, entries_of, arg_tree, arguments_of}
use Rattle.py_syntax.proofs.ExpressionLemmas.{expr_node-Str, expr_node-True, expr_node-False, expr_node-Nothing, expr_node-Name, expr_node-Neg, expr_node-Plus, expr_node-Not, expr_node-Bin, expr_node-Compare, expr_node-And, expr_node-Or, expr_node-Cond, expr_node-List, expr_node-Dict, expr_node-Tuple, expr_node-Attr, expr_node-Index, expr_node-Call}
use Rattle.py_typed.specs.Expressions.{TypedExpr, typed_expr, typed_entry}
use Rattle.py_check_context.specs.Context.{Wanted, free, context, var_sorts, wanted, row, WantedRow, wanted_in}
use Rattle.py_check_messages.specs.Seen.{Seen, Tells, both, ruled}
use Rattle.py_check_messages.specs.Rows.{row_then}
use Rattle.py_check_messages.proofs.RowLemmas.{Remains, row_step}
use Rattle.py_check_coercions.specs.Boxes.{boxed}
use Rattle.py_check_operators.specs.Operands.{maybe_pair}
use Rattle.py_check_operators.proofs.FactLemmas.{tree_of}
use Rattle.py_check_displays.specs.Displays as displays
use Rattle.py_check_displays.specs.Dicts.{key_wanted, value_wanted}
use Rattle.py_check_displays.specs.Entries.{entry_types}
use Rattle.py_check_expressions.specs.Typing.{typing, node_typing, operands, each_operand, items, entries, arguments, count}
use Rattle.py_check_expressions.proofs.NodeLemmas.{leaf_says, one_says, node_says, named_part, value_part, chain_says}
use Rattle.py_check_expressions.proofs.RowLemmas.{counted, drop_none, row_starts, items_at, entries_at, operands_at, each_at, arguments_at}
use Rattle.py_check_expressions.proofs.nodes.+expression.Goals as goal

pub expression-returns-in-Str : goal.expression-returns-in-Str
expression-returns-in-Str t c =
    let C = context c.args.environment.scope.now in
    let V = var_sorts c.args.environment.vars.now in
    let K = c.args.environment.known.now in
    let w = wanted c.args.want in
    node_says C V w K c.args.e.now (tree.Str c.in-Str.s) c.text.result c.args.faults.now c.args.faults.now (tree_of c.args.e.now _ _ c.in-Str.is (expr_node-Str c.in-Str.s)) (leaf_says boxed _ c.text.result c.args.faults.now c.text.ensures)

pub expression-returns-in-True : goal.expression-returns-in-True
expression-returns-in-True t c =
    let C = context c.args.environment.scope.now in
    let V = var_sorts c.args.environment.vars.now in
    let K = c.args.environment.known.now in
    let w = wanted c.args.want in
    node_says C V w K c.args.e.now (tree.True) c.flag.result c.args.faults.now c.args.faults.now (tree_of c.args.e.now _ _ c.in-True.is expr_node-True) (leaf_says boxed _ c.flag.result c.args.faults.now c.flag.ensures)

pub expression-returns-in-False : goal.expression-returns-in-False
expression-returns-in-False t c =
    let C = context c.args.environment.scope.now in
    let V = var_sorts c.args.environment.vars.now in
    let K = c.args.environment.known.now in
    let w = wanted c.args.want in
    node_says C V w K c.args.e.now (tree.False) c.flag-in-False.result c.args.faults.now c.args.faults.now (tree_of c.args.e.now _ _ c.in-False.is expr_node-False) (leaf_says boxed _ c.flag-in-False.result c.args.faults.now c.flag-in-False.ensures)

pub expression-returns-in-Nothing : goal.expression-returns-in-Nothing
expression-returns-in-Nothing t c =
    let C = context c.args.environment.scope.now in
    let V = var_sorts c.args.environment.vars.now in
    let K = c.args.environment.known.now in
    let w = wanted c.args.want in
    node_says C V w K c.args.e.now (tree.Nothing) c.nothing.result c.args.faults.now c.args.faults.now (tree_of c.args.e.now _ _ c.in-Nothing.is expr_node-Nothing) (leaf_says boxed _ c.nothing.result c.args.faults.now c.nothing.ensures)

pub expression-returns-in-Name : goal.expression-returns-in-Name
expression-returns-in-Name t c =
    let C = context c.args.environment.scope.now in
    let V = var_sorts c.args.environment.vars.now in
    let K = c.args.environment.known.now in
    let w = wanted c.args.want in
    node_says C V w K c.args.e.now (tree.Name c.in-Name.x) c.named.result c.args.faults.now c.named.new.faults (tree_of c.args.e.now _ _ c.in-Name.is (expr_node-Name c.in-Name.x)) c.named.ensures

pub expression-returns-in-Neg : goal.expression-returns-in-Neg
expression-returns-in-Neg t c =
    let C = context c.args.environment.scope.now in
    let V = var_sorts c.args.environment.vars.now in
    let K = c.args.environment.known.now in
    let w = wanted c.args.want in
    let h : IfOk c.negated.result (λ x. Tells boxed x c.args.faults.now c.negated.new.faults (node_typing C V w K c.args.e.now.span (tree.Neg (expr_tree c.in-Neg.e.value)))) = search (rules, c.negated.ensures) in
    node_says C V w K c.args.e.now (tree.Neg (expr_tree c.in-Neg.e.value)) c.negated.result c.args.faults.now c.negated.new.faults (tree_of c.args.e.now _ _ c.in-Neg.is (expr_node-Neg c.in-Neg.e)) h

pub expression-returns-in-Plus : goal.expression-returns-in-Plus
expression-returns-in-Plus t c =
    let C = context c.args.environment.scope.now in
    let V = var_sorts c.args.environment.vars.now in
    let K = c.args.environment.known.now in
    let w = wanted c.args.want in
    let h : IfOk c.affirmed.result (λ x. Tells boxed x c.args.faults.now c.affirmed.new.faults (node_typing C V w K c.args.e.now.span (tree.Plus (expr_tree c.in-Plus.e.value)))) = search (rules, c.affirmed.ensures) in
    node_says C V w K c.args.e.now (tree.Plus (expr_tree c.in-Plus.e.value)) c.affirmed.result c.args.faults.now c.affirmed.new.faults (tree_of c.args.e.now _ _ c.in-Plus.is (expr_node-Plus c.in-Plus.e)) h

pub expression-returns-in-Not : goal.expression-returns-in-Not
expression-returns-in-Not t c =
    let C = context c.args.environment.scope.now in
    let V = var_sorts c.args.environment.vars.now in
    let K = c.args.environment.known.now in
    let w = wanted c.args.want in
    let h : IfOk c.inverted.result (λ x. Tells boxed x c.args.faults.now c.inverted.new.faults (node_typing C V w K c.args.e.now.span (tree.Not (expr_tree c.in-Not.e.value)))) = search (rules, c.inverted.ensures) in
    node_says C V w K c.args.e.now (tree.Not (expr_tree c.in-Not.e.value)) c.inverted.result c.args.faults.now c.inverted.new.faults (tree_of c.args.e.now _ _ c.in-Not.is (expr_node-Not c.in-Not.e)) h

pub expression-returns-in-Bin : goal.expression-returns-in-Bin
expression-returns-in-Bin t c =
    let C = context c.args.environment.scope.now in
    let V = var_sorts c.args.environment.vars.now in
    let K = c.args.environment.known.now in
    let w = wanted c.args.want in
    let h : IfOk c.computed.result (λ x. Tells boxed x c.args.faults.now c.computed.new.faults (node_typing C V w K c.args.e.now.span (tree.Bin c.in-Bin.op (expr_tree c.in-Bin.a.value) (expr_tree c.in-Bin.b.value)))) = search (rules, c.computed.ensures) in
    node_says C V w K c.args.e.now (tree.Bin c.in-Bin.op (expr_tree c.in-Bin.a.value) (expr_tree c.in-Bin.b.value)) c.computed.result c.args.faults.now c.computed.new.faults (tree_of c.args.e.now _ _ c.in-Bin.is (expr_node-Bin c.in-Bin.op c.in-Bin.a c.in-Bin.b)) h

pub expression-returns-in-Compare : goal.expression-returns-in-Compare
expression-returns-in-Compare t c =
    let C = context c.args.environment.scope.now in
    let V = var_sorts c.args.environment.vars.now in
    let K = c.args.environment.known.now in
    let w = wanted c.args.want in
    let h : IfOk c.compared.result (λ x. Tells boxed x c.args.faults.now c.compared.new.faults (node_typing C V w K c.args.e.now.span (tree.Compare (expr_tree c.in-Compare.e.value) (comparisons_of (map comparison_tree c.in-Compare.cs))))) = search (rules, c.compared.ensures, c.as_slice.ensures) in
    node_says C V w K c.args.e.now (tree.Compare (expr_tree c.in-Compare.e.value) (comparisons_of (map comparison_tree c.in-Compare.cs))) c.compared.result c.args.faults.now c.compared.new.faults (tree_of c.args.e.now _ _ c.in-Compare.is (expr_node-Compare c.in-Compare.e c.in-Compare.cs)) h

pub expression-returns-in-And : goal.expression-returns-in-And
expression-returns-in-And t c =
    let C = context c.args.environment.scope.now in
    let V = var_sorts c.args.environment.vars.now in
    let K = c.args.environment.known.now in
    let w = wanted c.args.want in
    let h : IfOk c.joined.result (λ x. Tells boxed x c.args.faults.now c.joined.new.faults (node_typing C V w K c.args.e.now.span (tree.And (expr_tree c.in-And.a.value) (expr_tree c.in-And.b.value)))) = search (rules, c.joined.ensures) in
    node_says C V w K c.args.e.now (tree.And (expr_tree c.in-And.a.value) (expr_tree c.in-And.b.value)) c.joined.result c.args.faults.now c.joined.new.faults (tree_of c.args.e.now _ _ c.in-And.is (expr_node-And c.in-And.a c.in-And.b)) h

pub expression-returns-in-Or : goal.expression-returns-in-Or
expression-returns-in-Or t c =
    let C = context c.args.environment.scope.now in
    let V = var_sorts c.args.environment.vars.now in
    let K = c.args.environment.known.now in
    let w = wanted c.args.want in
    let h : IfOk c.joined-in-Or.result (λ x. Tells boxed x c.args.faults.now c.joined-in-Or.new.faults (node_typing C V w K c.args.e.now.span (tree.Or (expr_tree c.in-Or.a.value) (expr_tree c.in-Or.b.value)))) = search (rules, c.joined-in-Or.ensures) in
    node_says C V w K c.args.e.now (tree.Or (expr_tree c.in-Or.a.value) (expr_tree c.in-Or.b.value)) c.joined-in-Or.result c.args.faults.now c.joined-in-Or.new.faults (tree_of c.args.e.now _ _ c.in-Or.is (expr_node-Or c.in-Or.a c.in-Or.b)) h

pub expression-returns-in-Cond : goal.expression-returns-in-Cond
expression-returns-in-Cond t c =
    let C = context c.args.environment.scope.now in
    let V = var_sorts c.args.environment.vars.now in
    let K = c.args.environment.known.now in
    let w = wanted c.args.want in
    let h : IfOk c.chosen.result (λ x. Tells boxed x c.args.faults.now c.chosen.new.faults (node_typing C V w K c.args.e.now.span (tree.Cond (expr_tree c.in-Cond.a.value) (expr_tree c.in-Cond.t.value) (expr_tree c.in-Cond.b.value)))) = search (rules, c.chosen.ensures) in
    node_says C V w K c.args.e.now (tree.Cond (expr_tree c.in-Cond.a.value) (expr_tree c.in-Cond.t.value) (expr_tree c.in-Cond.b.value)) c.chosen.result c.args.faults.now c.chosen.new.faults (tree_of c.args.e.now _ _ c.in-Cond.is (expr_node-Cond c.in-Cond.a c.in-Cond.t c.in-Cond.b)) h

pub expression-returns-in-List : goal.expression-returns-in-List
expression-returns-in-List t c =
    let C = context c.args.environment.scope.now in
    let V = var_sorts c.args.environment.vars.now in
    let K = c.args.environment.known.now in
    let w = wanted c.args.want in
    let h : IfOk c.list.result (λ x. Tells boxed x c.args.faults.now c.list.new.faults (node_typing C V w K c.args.e.now.span (tree.ListOf (exprs_of (map expr_tree c.in-List.es))))) = search (rules, c.list.ensures, c.as_slice-in-List.ensures) in
    node_says C V w K c.args.e.now (tree.ListOf (exprs_of (map expr_tree c.in-List.es))) c.list.result c.args.faults.now c.list.new.faults (tree_of c.args.e.now _ _ c.in-List.is (expr_node-List c.in-List.es)) h

pub expression-returns-in-Tuple : goal.expression-returns-in-Tuple
expression-returns-in-Tuple t c =
    let C = context c.args.environment.scope.now in
    let V = var_sorts c.args.environment.vars.now in
    let K = c.args.environment.known.now in
    let w = wanted c.args.want in
    let h : IfOk c.tuple.result (λ x. Tells boxed x c.args.faults.now c.tuple.new.faults (node_typing C V w K c.args.e.now.span (tree.TupleOf (exprs_of (map expr_tree c.in-Tuple.es))))) = search (rules, c.tuple.ensures, c.as_slice-in-Tuple.ensures) in
    node_says C V w K c.args.e.now (tree.TupleOf (exprs_of (map expr_tree c.in-Tuple.es))) c.tuple.result c.args.faults.now c.tuple.new.faults (tree_of c.args.e.now _ _ c.in-Tuple.is (expr_node-Tuple c.in-Tuple.es)) h

pub expression-returns-in-Dict : goal.expression-returns-in-Dict
expression-returns-in-Dict t c =
    let C = context c.args.environment.scope.now in
    let V = var_sorts c.args.environment.vars.now in
    let K = c.args.environment.known.now in
    let w = wanted c.args.want in
    let h : IfOk c.dict.result (λ x. Tells boxed x c.args.faults.now c.dict.new.faults (node_typing C V w K c.args.e.now.span (tree.DictOf (entries_of (map entry_tree c.in-Dict.es))))) = search (rules, c.dict.ensures, c.as_slice-in-Dict.ensures) in
    node_says C V w K c.args.e.now (tree.DictOf (entries_of (map entry_tree c.in-Dict.es))) c.dict.result c.args.faults.now c.dict.new.faults (tree_of c.args.e.now _ _ c.in-Dict.is (expr_node-Dict c.in-Dict.es)) h

pub expression-returns-in-Index : goal.expression-returns-in-Index
expression-returns-in-Index t c =
    let C = context c.args.environment.scope.now in
    let V = var_sorts c.args.environment.vars.now in
    let K = c.args.environment.known.now in
    let w = wanted c.args.want in
    let h : IfOk c.indexed.result (λ x. Tells boxed x c.args.faults.now c.indexed.new.faults (node_typing C V w K c.args.e.now.span (tree.Index (expr_tree c.in-Index.e.value) (expr_tree c.in-Index.i.value)))) = search (rules, c.indexed.ensures) in
    node_says C V w K c.args.e.now (tree.Index (expr_tree c.in-Index.e.value) (expr_tree c.in-Index.i.value)) c.indexed.result c.args.faults.now c.indexed.new.faults (tree_of c.args.e.now _ _ c.in-Index.is (expr_node-Index c.in-Index.e c.in-Index.i)) h

pub expression-returns-in-Attr : goal.expression-returns-in-Attr
expression-returns-in-Attr t c =
    let C = context c.args.environment.scope.now in
    let V = var_sorts c.args.environment.vars.now in
    let K = c.args.environment.known.now in
    let w = wanted c.args.want in
    let h : IfOk c.member.result (λ x. Tells boxed x c.args.faults.now c.member.new.faults (node_typing C V w K c.args.e.now.span (tree.Attr (expr_tree c.in-Attr.e.value) c.in-Attr.a))) = search (rules, c.member.ensures) in
    node_says C V w K c.args.e.now (tree.Attr (expr_tree c.in-Attr.e.value) c.in-Attr.a) c.member.result c.args.faults.now c.member.new.faults (tree_of c.args.e.now _ _ c.in-Attr.is (expr_node-Attr c.in-Attr.e c.in-Attr.a)) h

pub expression-returns-in-Call : goal.expression-returns-in-Call
expression-returns-in-Call t c =
    let C = context c.args.environment.scope.now in
    let V = var_sorts c.args.environment.vars.now in
    let K = c.args.environment.known.now in
    let w = wanted c.args.want in
    let h : IfOk c.call.result (λ x. Tells boxed x c.args.faults.now c.call.new.faults (node_typing C V w K c.args.e.now.span (tree.Call (expr_tree c.in-Call.f.value) (arguments_of (map arg_tree c.in-Call.args))))) = search (rules, c.call.ensures, c.as_slice-in-Call.ensures) in
    node_says C V w K c.args.e.now (tree.Call (expr_tree c.in-Call.f.value) (arguments_of (map arg_tree c.in-Call.args))) c.call.result c.args.faults.now c.call.new.faults (tree_of c.args.e.now _ _ c.in-Call.is (expr_node-Call c.in-Call.f c.in-Call.args)) h

pub tuple-returns : goal.tuple-returns
tuple-returns t c =
    let C = context c.args.environment.scope.now in
    let V = var_sorts c.args.environment.vars.now in
    let K = c.args.environment.known.now in
    let w = wanted c.args.want in
    let xs = exprs_of (map expr_tree c.args.es.now) in
    let R = displays.parts_row w (count xs) in
    let asked : row c.parts_row-asked.result ≡ displays.parts_row w (length c.args.es.now) = search (rules, c.parts_row-asked.ensures) in
    let is = asked ∙ ap (displays.parts_row w) (sym (counted c.args.es.now)) in
    let P : WantedRow → Type 0 = λ q. Tells (map typed_expr) c.in_ok-es.es c.args.faults.now c.items.new.faults (items C V q 0 K xs) in
    let Q : WantedRow → Type 0 = λ o. IfOk c.tuple_display.result (λ x. Tells boxed x c.items.new.faults c.tuple_display.new.faults (ruled c.args.span (displays.tuple_display C.classes o c.args.span) (option_map (map typed_expr) c.in_ok-es.es))) in
    one_says (ruled c.args.span (displays.tuple_display C.classes R c.args.span)) (map typed_expr) boxed (items C V R 0 K xs) c.in_ok-es.es c.tuple_display.result c.args.faults.now c.items.new.faults c.tuple_display.new.faults (subst P is c.in_ok-es.ensures) (subst Q is c.tuple_display.ensures)

pub part-returns-then-is_named : goal.part-returns-then-is_named
part-returns-then-is_named t c =
    let C = context c.args.environment.scope.now in
    let V = var_sorts c.args.environment.vars.now in
    let K = c.args.environment.known.now in
    let P : Seen TypedExpr → Type 0 = λ s. IfOk c.receiver.result (λ x. Tells boxed x c.args.faults.now c.receiver.new.faults s) in
    subst P (sym (named_part C V free K c.args.f.now (sym c.is_named.ensures ∙ c.if-is_named.true))) c.receiver.ensures

pub part-returns-else-is_named : goal.part-returns-else-is_named
part-returns-else-is_named t c =
    let C = context c.args.environment.scope.now in
    let V = var_sorts c.args.environment.vars.now in
    let K = c.args.environment.known.now in
    let P : Seen TypedExpr → Type 0 = λ s. IfOk c.expression.result (λ x. Tells boxed x c.args.faults.now c.expression.new.faults s) in
    subst P (sym (value_part C V free K c.args.f.now (sym c.is_named.ensures ∙ c.if-is_named.false))) c.expression.ensures

pub compared-returns : goal.compared-returns
compared-returns t c =
    let C = context c.args.environment.scope.now in
    let V = var_sorts c.args.environment.vars.now in
    let K = c.args.environment.known.now in
    let cs = comparisons_of (map comparison_tree c.args.cs.now) in
    let s = typing C V free K (expr_tree c.args.e.now) in
    let rest = (operands C V K cs).said in
    chain_says C.classes c.args.span (option_map boxed c.in_ok-first.first) s.got (map maybe_pair c.in_ok-more.more) (each_operand C V K cs) c.operands.new.faults (s.said ++ rest) c.chain.result c.args.faults.now c.chain.new.faults
    c.in_ok-first.ensures.0 c.in_ok-more.ensures.each
    (c.in_ok-more.ensures.told ∙ ap (λ l. l ++ rest) (c.in_ok-first.ensures.1 ∙ ap (λ l. l ++ s.said) c.new-said.ensures)) c.chain.ensures

pub operands-loop-op-preserved : goal.operands-loop-op-preserved
operands-loop-op-preserved t c =
    let C = context c.args.environment.scope.now in
    let V = var_sorts c.args.environment.vars.now in
    let K = c.args.environment.known.now in
    let xs = c.args.cs.now in
    let i = c.loop-op.op-index in
    let p = c.loop-op-item.result in
    let s : Seen TypedExpr = typing C V free K (expr_tree p.1) in
    let rest = comparisons_of (map comparison_tree (drop (i + 1) xs)) in
    let e : Tells boxed c.in_ok-e.e c.loop-op.faults c.expression.new.faults s = c.in_ok-e.ensures in
    record {
      each =
          ap (λ l. map maybe_pair l ++ each_operand C V K rest) c.in_ok-push.ensures.ok
          ∙ ap (λ l. l ++ each_operand C V K rest) (map-append maybe_pair c.loop-op.found ((p.0, c.in_ok-e.e) ∷ []))
          ∙ append_assoc (map maybe_pair c.loop-op.found) ((p.0, option_map boxed c.in_ok-e.e) ∷ []) (each_operand C V K rest)
          ∙ ap (λ o. map maybe_pair c.loop-op.found ++ (p.0, o) ∷ each_operand C V K rest) e.0
          ∙ ap (λ l. map maybe_pair c.loop-op.found ++ l) (sym (each_at C V K xs i p c.loop-op-test.true c.loop-op-item.is))
          ∙ c.loop-op.invariant.each;
      told =
          c.loop-op.invariant.told
          ∙ ap (λ (q : Seen (List (CmpOp × TypedExpr))). c.loop-op.faults ++ q.said) (operands_at C V K xs i p c.loop-op-test.true c.loop-op-item.is)
          ∙ sym (append_assoc c.loop-op.faults s.said (operands C V K rest).said)
          ∙ ap (λ l. l ++ (operands C V K rest).said) (sym e.1);
    }

pub items-loop-i-init : goal.items-loop-i-init
items-loop-i-init t c =
    let C = context c.args.environment.scope.now in
    let V = var_sorts c.args.environment.vars.now in
    let K = c.args.environment.known.now in
    let R = row c.args.asked in
    let old = c.args.faults.now in
    let xs = c.args.es.now in
    let whole : Seen (List TypedExpr) = items C V R 0 K (exprs_of (map expr_tree xs)) in
    let front : Option (List TypedExpr) = Some (map typed_expr c.new.result) in
    let P : List Expr → Type 0 = λ l. Remains front old old whole (items C V R 0 K (exprs_of (map expr_tree l))) in
    subst P (sym (drop_none xs)) (row_starts front old whole (ap (λ l. Some (map typed_expr l)) c.new.ensures))

pub items-loop-i-preserved : goal.items-loop-i-preserved
items-loop-i-preserved t c =
    let C = context c.args.environment.scope.now in
    let V = var_sorts c.args.environment.vars.now in
    let K = c.args.environment.known.now in
    let R = row c.args.asked in
    let xs = c.args.es.now in
    let i = c.loop-i.i in
    let x = c.index-es-i.result in
    let one : Seen TypedExpr = typing C V (wanted_in R i) K (expr_tree x) in
    let whole : Seen (List TypedExpr) = items C V R 0 K (exprs_of (map expr_tree xs)) in
    let rest : Seen (List TypedExpr) = items C V R (i + 1) K (exprs_of (map expr_tree (drop (i + 1) xs))) in
    let front : Option (List TypedExpr) = option_map (map typed_expr) c.loop-i.found in
    let W : Wanted → Type 0 = λ q. Tells boxed c.in_ok-e.e c.loop-i.faults c.expression.new.faults (typing C V q K (expr_tree x)) in
    let e : Tells boxed c.in_ok-e.e c.loop-i.faults c.expression.new.faults one = subst W c.wanted_at.ensures c.in_ok-e.ensures in
    let P : Seen (List TypedExpr) → Type 0 = λ q. Remains front c.args.faults.now c.loop-i.faults whole q in
    let now : Remains front c.args.faults.now c.loop-i.faults whole (row_then one rest) = subst P (items_at C V K R xs i x c.loop-i-test.true c.index-es-i.is) c.loop-i.invariant in
    let Q : Option (List TypedExpr) → Type 0 = λ f. Remains f c.args.faults.now c.expression.new.faults whole rest in
    subst Q (sym c.in_ok-found.ensures) (row_step front (option_map boxed c.in_ok-e.e) c.args.faults.now c.loop-i.faults c.expression.new.faults whole rest one now e.0 e.1)

pub entries-loop-k-init : goal.entries-loop-k-init
entries-loop-k-init t c =
    let C = context c.args.environment.scope.now in
    let V = var_sorts c.args.environment.vars.now in
    let K = c.args.environment.known.now in
    let o = option_map entry_types c.args.expected in
    let old = c.args.faults.now in
    let xs = c.args.es.now in
    let whole : Seen (List (TypedExpr × TypedExpr)) = entries C V (key_wanted o) (value_wanted o) K (entries_of (map entry_tree xs)) in
    let front : Option (List (TypedExpr × TypedExpr)) = Some (map typed_entry c.new.result) in
    let P : List (Expr × Expr) → Type 0 = λ l. Remains front old old whole (entries C V (key_wanted o) (value_wanted o) K (entries_of (map entry_tree l))) in
    subst P (sym (drop_none xs)) (row_starts front old whole (ap (λ l. Some (map typed_entry l)) c.new.ensures))

pub entries-loop-k-preserved : goal.entries-loop-k-preserved
entries-loop-k-preserved t c =
    let C = context c.args.environment.scope.now in
    let V = var_sorts c.args.environment.vars.now in
    let K = c.args.environment.known.now in
    let o = option_map entry_types c.args.expected in
    let xs = c.args.es.now in
    let i = c.loop-k.k-index in
    let p = c.loop-k-item.result in
    let k : Seen TypedExpr = typing C V (key_wanted o) K (expr_tree p.0) in
    let v : Seen TypedExpr = typing C V (value_wanted o) K (expr_tree p.1) in
    let whole : Seen (List (TypedExpr × TypedExpr)) = entries C V (key_wanted o) (value_wanted o) K (entries_of (map entry_tree xs)) in
    let rest : Seen (List (TypedExpr × TypedExpr)) = entries C V (key_wanted o) (value_wanted o) K (entries_of (map entry_tree (drop (i + 1) xs))) in
    let front : Option (List (TypedExpr × TypedExpr)) = option_map (map typed_entry) c.loop-k.found in
    let A : Wanted → Type 0 = λ q. Tells boxed c.in_ok-key.key c.loop-k.faults c.expression.new.faults (typing C V q K (expr_tree p.0)) in
    let B : Wanted → Type 0 = λ q. Tells boxed c.in_ok-value.value c.expression.new.faults c.expression-in-loop-k.new.faults (typing C V q K (expr_tree p.1)) in
    let a : Tells boxed c.in_ok-key.key c.loop-k.faults c.expression.new.faults k = subst A c.key_want.ensures c.in_ok-key.ensures in
    let b : Tells boxed c.in_ok-value.value c.expression.new.faults c.expression-in-loop-k.new.faults v = subst B c.value_want.ensures c.in_ok-value.ensures in
    let P : Seen (List (TypedExpr × TypedExpr)) → Type 0 = λ q. Remains front c.args.faults.now c.loop-k.faults whole q in
    let now : Remains front c.args.faults.now c.loop-k.faults whole (row_then (both k v) rest) = subst P (entries_at C V K (key_wanted o) (value_wanted o) xs i p c.loop-k-test.true c.loop-k-item.is) c.loop-k.invariant in
    let got : option_zip (option_map boxed c.in_ok-key.key) (option_map boxed c.in_ok-value.value) ≡ option_zip k.got v.got = ap (λ x. option_zip x (option_map boxed c.in_ok-value.value)) a.0 ∙ ap (λ y. option_zip k.got y) b.0 in
    let Q : Option (List (TypedExpr × TypedExpr)) → Type 0 = λ f. Remains f c.args.faults.now c.expression-in-loop-k.new.faults whole rest in
    subst Q (sym c.in_ok-found.ensures)
    (row_step front (option_zip (option_map boxed c.in_ok-key.key) (option_map boxed c.in_ok-value.value)) c.args.faults.now c.loop-k.faults c.expression-in-loop-k.new.faults whole rest (both k v) now got
    (b.1 ∙ ap (λ l. l ++ v.said) a.1 ∙ append_assoc c.loop-k.faults k.said v.said))

pub arguments-loop-i-init : goal.arguments-loop-i-init
arguments-loop-i-init t c =
    let C = context c.args.environment.scope.now in
    let V = var_sorts c.args.environment.vars.now in
    let K = c.args.environment.known.now in
    let R = row c.args.asked in
    let old = c.args.faults.now in
    let xs = c.args.args.now in
    let whole : Seen (List TypedExpr) = arguments C V R 0 K (arguments_of (map arg_tree xs)) in
    let front : Option (List TypedExpr) = Some (map typed_expr c.new.result) in
    let P : List Arg → Type 0 = λ l. Remains front old old whole (arguments C V R 0 K (arguments_of (map arg_tree l))) in
    subst P (sym (drop_none xs)) (row_starts front old whole (ap (λ l. Some (map typed_expr l)) c.new.ensures))

pub arguments-loop-i-preserved : goal.arguments-loop-i-preserved
arguments-loop-i-preserved t c =
    let C = context c.args.environment.scope.now in
    let V = var_sorts c.args.environment.vars.now in
    let K = c.args.environment.known.now in
    let R = row c.args.asked in
    let xs = c.args.args.now in
    let i = c.loop-i.i in
    let x = c.index-args-i.result in
    let one : Seen TypedExpr = typing C V (wanted_in R i) K (expr_tree (out-Arg x).value) in
    let whole : Seen (List TypedExpr) = arguments C V R 0 K (arguments_of (map arg_tree xs)) in
    let rest : Seen (List TypedExpr) = arguments C V R (i + 1) K (arguments_of (map arg_tree (drop (i + 1) xs))) in
    let front : Option (List TypedExpr) = option_map (map typed_expr) c.loop-i.found in
    let W : Wanted → Type 0 = λ q. Tells boxed c.in_ok-e.e c.loop-i.faults c.expression.new.faults (typing C V q K (expr_tree (out-Arg x).value)) in
    let e : Tells boxed c.in_ok-e.e c.loop-i.faults c.expression.new.faults one = subst W c.wanted_at.ensures c.in_ok-e.ensures in
    let P : Seen (List TypedExpr) → Type 0 = λ q. Remains front c.args.faults.now c.loop-i.faults whole q in
    let now : Remains front c.args.faults.now c.loop-i.faults whole (row_then one rest) = subst P (arguments_at C V K R xs i x c.loop-i-test.true c.index-args-i.is) c.loop-i.invariant in
    let Q : Option (List TypedExpr) → Type 0 = λ f. Remains f c.args.faults.now c.expression.new.faults whole rest in
    subst Q (sym c.in_ok-found.ensures) (row_step front (option_map boxed c.in_ok-e.e) c.args.faults.now c.loop-i.faults c.expression.new.faults whole rest one now e.0 e.1)
