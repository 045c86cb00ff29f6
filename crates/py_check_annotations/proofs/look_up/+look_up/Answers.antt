use Rattle.std.proofs.Common.{rules, ◌≡◌, ◌∙◌, ◌++◌, ◌||◌, IfOk, map, ap, sym, refl}
use Rattle.std.proofs.lemmas.List.{append_assoc}
use Rattle.py_syntax.specs.Expressions.{expr_tree, arg_tree, arguments_of, comparisons_of, comparison_tree, entries_of, entry_tree}
use Rattle.py_syntax.proofs.ExpressionLemmas.{expr_node-And, expr_node-Or, expr_node-Cond, expr_node-Index, expr_node-Call, expr_node-Compare, expr_node-Dict}
use Rattle.py_binder.specs.Sights.{reads, comparisons_reads, entries_reads, arguments_reads}
use Rattle.py_binder.specs.declared.sight.Manner.TheVariants.{Annotation}
use Rattle.py_check_context.specs.Context.{context}
use Rattle.py_check_annotations.specs.Names.{any_unknown, has_unknown}
use Rattle.py_check_annotations.proofs.LookUpLemmas.{reads_of, joined, joined_ok, row_end}
use Rattle.py_check_annotations.proofs.look_up.+look_up.Goals as goal

pub look_up-returns-in_ok-look_up-in-And : goal.look_up-returns-in_ok-look_up-in-And
look_up-returns-in_ok-look_up-in-And t c =
    let first : c.look_up-in-And.new.found ≡ (c.args.found.now || has_unknown (context c.args.scope.now).meaning (expr_tree c.in-And.a.value)) = search (rules, c.in_ok-look_up-in-And.ensures) in
    let second : IfOk c.look_up-in-And-2.result (λ done. c.look_up-in-And-2.new.found ≡ (c.look_up-in-And.new.found || has_unknown (context c.args.scope.now).meaning (expr_tree c.in-And.b.value))) = search (rules, c.look_up-in-And-2.ensures) in
    joined_ok (context c.args.scope.now).meaning c.look_up-in-And-2.result _ _ _
    (reads Annotation (expr_tree c.args.e.now)) (reads Annotation (expr_tree c.in-And.a.value)) (reads Annotation (expr_tree c.in-And.b.value))
    (reads_of c.args.e.now _ _ c.in-And.is (expr_node-And c.in-And.a c.in-And.b)) first second

pub look_up-returns-in_ok-look_up-in-Or : goal.look_up-returns-in_ok-look_up-in-Or
look_up-returns-in_ok-look_up-in-Or t c =
    let first : c.look_up-in-Or.new.found ≡ (c.args.found.now || has_unknown (context c.args.scope.now).meaning (expr_tree c.in-Or.a.value)) = search (rules, c.in_ok-look_up-in-Or.ensures) in
    let second : IfOk c.look_up-in-Or-2.result (λ done. c.look_up-in-Or-2.new.found ≡ (c.look_up-in-Or.new.found || has_unknown (context c.args.scope.now).meaning (expr_tree c.in-Or.b.value))) = search (rules, c.look_up-in-Or-2.ensures) in
    joined_ok (context c.args.scope.now).meaning c.look_up-in-Or-2.result _ _ _
    (reads Annotation (expr_tree c.args.e.now)) (reads Annotation (expr_tree c.in-Or.a.value)) (reads Annotation (expr_tree c.in-Or.b.value))
    (reads_of c.args.e.now _ _ c.in-Or.is (expr_node-Or c.in-Or.a c.in-Or.b)) first second

pub look_up-returns-in_ok-look_up-in-Index : goal.look_up-returns-in_ok-look_up-in-Index
look_up-returns-in_ok-look_up-in-Index t c =
    let first : c.look_up-in-Index.new.found ≡ (c.args.found.now || has_unknown (context c.args.scope.now).meaning (expr_tree c.in-Index.a.value)) = search (rules, c.in_ok-look_up-in-Index.ensures) in
    let second : IfOk c.look_up-in-Index-2.result (λ done. c.look_up-in-Index-2.new.found ≡ (c.look_up-in-Index.new.found || has_unknown (context c.args.scope.now).meaning (expr_tree c.in-Index.i.value))) = search (rules, c.look_up-in-Index-2.ensures) in
    joined_ok (context c.args.scope.now).meaning c.look_up-in-Index-2.result _ _ _
    (reads Annotation (expr_tree c.args.e.now)) (reads Annotation (expr_tree c.in-Index.a.value)) (reads Annotation (expr_tree c.in-Index.i.value))
    (reads_of c.args.e.now _ _ c.in-Index.is (expr_node-Index c.in-Index.a c.in-Index.i)) first second

pub look_up-returns-in_ok-look_up-in-Call : goal.look_up-returns-in_ok-look_up-in-Call
look_up-returns-in_ok-look_up-in-Call t c =
    let first : c.look_up-in-Call.new.found ≡ (c.args.found.now || has_unknown (context c.args.scope.now).meaning (expr_tree c.in-Call.callee.value)) = search (rules, c.in_ok-look_up-in-Call.ensures) in
    let second : IfOk c.look_up_arguments.result (λ done. c.look_up_arguments.new.found ≡ (c.look_up-in-Call.new.found || any_unknown (context c.args.scope.now).meaning (arguments_reads Annotation (arguments_of (map arg_tree c.in-Call.arguments))))) = search (rules, c.look_up_arguments.ensures, c.as_slice-in-Call.ensures) in
    joined_ok (context c.args.scope.now).meaning c.look_up_arguments.result _ _ _
    (reads Annotation (expr_tree c.args.e.now)) (reads Annotation (expr_tree c.in-Call.callee.value)) (arguments_reads Annotation (arguments_of (map arg_tree c.in-Call.arguments)))
    (reads_of c.args.e.now _ _ c.in-Call.is (expr_node-Call c.in-Call.callee c.in-Call.arguments)) first second

pub look_up-returns-in_ok-look_up-in-Cond-2 : goal.look_up-returns-in_ok-look_up-in-Cond-2
look_up-returns-in_ok-look_up-in-Cond-2 t c =
    let first : c.look_up-in-Cond.new.found ≡ (c.args.found.now || has_unknown (context c.args.scope.now).meaning (expr_tree c.in-Cond.a.value)) = search (rules, c.in_ok-look_up-in-Cond.ensures) in
    let second : c.look_up-in-Cond-2.new.found ≡ (c.look_up-in-Cond.new.found || has_unknown (context c.args.scope.now).meaning (expr_tree c.in-Cond.test.value)) = search (rules, c.in_ok-look_up-in-Cond-2.ensures) in
    let third : IfOk c.look_up-in-Cond-3.result (λ done. c.look_up-in-Cond-3.new.found ≡ (c.look_up-in-Cond-2.new.found || has_unknown (context c.args.scope.now).meaning (expr_tree c.in-Cond.b.value))) = search (rules, c.look_up-in-Cond-3.ensures) in
    joined_ok (context c.args.scope.now).meaning c.look_up-in-Cond-3.result _ _ _
    (reads Annotation (expr_tree c.args.e.now)) (reads Annotation (expr_tree c.in-Cond.a.value) ++ reads Annotation (expr_tree c.in-Cond.test.value)) (reads Annotation (expr_tree c.in-Cond.b.value))
    (reads_of c.args.e.now _ _ c.in-Cond.is (expr_node-Cond c.in-Cond.a c.in-Cond.test c.in-Cond.b) ∙ sym (append_assoc (reads Annotation (expr_tree c.in-Cond.a.value)) (reads Annotation (expr_tree c.in-Cond.test.value)) (reads Annotation (expr_tree c.in-Cond.b.value))))
    (joined (context c.args.scope.now).meaning _ _ _ (reads Annotation (expr_tree c.in-Cond.a.value) ++ reads Annotation (expr_tree c.in-Cond.test.value)) (reads Annotation (expr_tree c.in-Cond.a.value)) (reads Annotation (expr_tree c.in-Cond.test.value)) refl first second)
    third

pub look_up-returns-after-operands : goal.look_up-returns-after-operands
look_up-returns-after-operands t c =
    let first : c.look_up-in-Compare.new.found ≡ (c.args.found.now || has_unknown (context c.args.scope.now).meaning (expr_tree c.in-Compare.a.value)) = search (rules, c.in_ok-look_up-in-Compare.ensures) in
    let all = c.as_slice-more.result.now in
    joined (context c.args.scope.now).meaning _ _ _
    (reads Annotation (expr_tree c.args.e.now)) (reads Annotation (expr_tree c.in-Compare.a.value)) (comparisons_reads Annotation (comparisons_of (map comparison_tree all)))
    (reads_of c.args.e.now _ _ (rw c.as_slice-more.ensures c.in-Compare.is) (expr_node-Compare c.in-Compare.a all))
    first
    (row_end (λ l. any_unknown (context c.args.scope.now).meaning (comparisons_reads Annotation (comparisons_of (map comparison_tree l)))) all c.operands.b-index c.operands-test.false refl _ _ c.operands.invariant)

pub look_up-returns-after-entries : goal.look_up-returns-after-entries
look_up-returns-after-entries t c =
    let all = c.as_slice-entries.result.now in
    row_end (λ l. any_unknown (context c.args.scope.now).meaning (entries_reads Annotation (entries_of (map entry_tree l)))) all c.entries.key-index c.entries-test.false refl _ _ c.entries.invariant
    ∙ ap (λ s. c.args.found.now || any_unknown (context c.args.scope.now).meaning s) (sym (reads_of c.args.e.now _ _ (rw c.as_slice-entries.ensures c.in-Dict.is) (expr_node-Dict all)))
