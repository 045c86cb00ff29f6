use Rattle.std.proofs.Common.{rules, ◌≡◌, ◌+◌, false, map, drop, sym, subst, Option, List, IfOk}
use Rattle.std.specs.Option.{option_map}
use Rattle.py_syntax.specs.Expressions.{expr_tree, exprs_of}
use Rattle.py_typed.specs.Sorts.{Sort, sort}
use Rattle.py_check_context.specs.Context.{context}
use Rattle.py_check_messages.specs.Seen.{Seen, Tells}
use Rattle.py_check_messages.specs.Rows.{row_then}
use Rattle.py_check_messages.proofs.RowLemmas.{Remains, row_step}
use Rattle.py_check_annotations.specs.declared.annotations.Head.TheVariants.{Form, NoForm}
use Rattle.py_check_annotations.specs.Annotations.{annotation, parts, row, may_be_type, is_or_none, head_named, name_of}
use Rattle.py_check_annotations.proofs.AnnotationLemmas.{says, not_a_type, neither_none, no_form_at, form_says, items_at, row_at}
use Rattle.py_check_annotations.proofs.annotations.+annotation.Goals as goal

pub annotation-returns-then-not-may_be_type : goal.annotation-returns-then-not-may_be_type
annotation-returns-then-not-may_be_type t c =
    let none : may_be_type (expr_tree c.args.e.now) ≡ false = search rules in
    says c.no_type.result _ _ _ _ (not_a_type (context c.args.scope.now).meaning c.args.e.now none) c.no_type.ensures

pub annotation-returns-else-is_or_none-2 : goal.annotation-returns-else-is_or_none-2
annotation-returns-else-is_or_none-2 t c =
    let right : is_or_none c.in-Bin.op (expr_tree c.in-Bin.b.value) ≡ false = search rules in
    let left : is_or_none c.in-Bin.op (expr_tree c.in-Bin.a.value) ≡ false = search rules in
    says c.no_type-else-is_or_none-2.result _ _ _ _ (neither_none (context c.args.scope.now).meaning c.args.e.now c.in-Bin.op c.in-Bin.a c.in-Bin.b c.in-Bin.is right left) c.no_type-else-is_or_none-2.ensures

pub annotation-returns-in_ok-types-in-Form : goal.annotation-returns-in_ok-types-in-Form
annotation-returns-in_ok-types-in-Form t c =
    let named : head_named (context c.args.scope.now).meaning (name_of (expr_tree c.in-Index.head.value)) ≡ Form c.in-Form.former = search rules in
    let first : Tells (map sort) c.in_ok-types-in-Form.types c.args.faults.now c.parts.new.faults (parts (context c.args.scope.now).meaning (expr_tree c.in-Index.inside.value)) = search (rules, c.in_ok-types-in-Form.ensures) in
    form_says (context c.args.scope.now).meaning c.args.e.now c.in-Index.head c.in-Index.inside c.in-Form.former c.in-Index.is named c.in_ok-types-in-Form.types c.formed.result _ _ _ first c.formed.ensures

pub annotation-returns-in-NoForm : goal.annotation-returns-in-NoForm
annotation-returns-in-NoForm t c =
    let named : head_named (context c.args.scope.now).meaning (name_of (expr_tree c.in-Index.head.value)) ≡ NoForm = search rules in
    says c.no_type-in-NoForm.result _ _ _ _ (no_form_at (context c.args.scope.now).meaning c.args.e.now c.in-Index.head c.in-Index.inside c.in-Index.is named) c.no_type-in-NoForm.ensures

pub items-returns-in-Tuple : goal.items-returns-in-Tuple
items-returns-in-Tuple t c =
    let one : IfOk c.row.result (λ ts. Tells (map sort) ts c.args.faults.now c.row.new.faults (row (context c.args.scope.now).meaning (exprs_of (map expr_tree c.in-Tuple.all)))) = search (rules, c.row.ensures, c.as_slice.ensures) in
    let P : Seen (List Sort) → Type 0 = λ s. IfOk c.row.result (λ ts. Tells (map sort) ts c.args.faults.now c.row.new.faults s) in
    subst P (sym (items_at (context c.args.scope.now).meaning c.args.e.now c.in-Tuple.all c.in-Tuple.is)) one

pub row-loop-item-preserved : goal.row-loop-item-preserved
row-loop-item-preserved t c =
    let i = c.loop-item.item-index in
    let all = c.args.items.now in
    let e = c.item-item.result in
    let front : Option (List Sort) = option_map (map sort) c.loop-item.types in
    let one : Seen Sort = annotation (context c.args.scope.now).meaning (expr_tree e) in
    let whole : Seen (List Sort) = row (context c.args.scope.now).meaning (exprs_of (map expr_tree all)) in
    let rest : Seen (List Sort) = row (context c.args.scope.now).meaning (exprs_of (map expr_tree (drop (i + 1) all))) in
    let P : Seen (List Sort) → Type 0 = λ s. Remains front c.args.faults.now c.loop-item.faults whole s in
    let now : Remains front c.args.faults.now c.loop-item.faults whole (row_then one rest) = subst P (row_at (context c.args.scope.now).meaning all i e c.loop-item-test.true c.item-item.is) c.loop-item.invariant in
    let told : Tells sort c.in_ok-t.t c.loop-item.faults c.annotation.new.faults one = search (rules, c.in_ok-t.ensures) in
    let Q : Option (List Sort) → Type 0 = λ f. Remains f c.args.faults.now c.annotation.new.faults whole rest in
    subst Q (sym c.in_ok-types.ensures) (row_step front (option_map sort c.in_ok-t.t) c.args.faults.now c.loop-item.faults c.annotation.new.faults whole rest one now told.0 told.1)
