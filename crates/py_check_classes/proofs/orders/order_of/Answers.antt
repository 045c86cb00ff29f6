use Rattle.std.proofs.Common.{rules, ◌≡◌, ◌∙◌, ◌++◌, ◌∷◌, [], IfOk, List, ℕ, map, ap, subst, refl, length}
use Rattle.class_layout.specs.Merging.{rows_of}
use Rattle.py_check_classes.specs.Headers.{entry}
use Rattle.py_check_classes.specs.Kept.{rows_above}
use Rattle.py_check_classes.proofs.StepLemmas.{rows_fit, merged_is}
use Rattle.py_check_classes.proofs.orders.order_of.Goals as goal

pub merge-requires : goal.merge-requires
merge-requires c =
    let same : c.deref_mut.result.now ≡ c.in_ok-rows.rows.items = search (rules, c.deref_mut.ensures) in
    rows_fit c.args.headers.now c.args.orders.now c.requires.kept c.args.shape.now c.requires.below (length c.args.headers.now) refl (rows_of c.deref_mut.result.now)
    (ap rows_of same
    ∙ c.in_ok-rows.ensures
    ∙ ap (λ (a : List (List ℕ)). a ++ c.as_slice-bases.result.now ∷ []) (c.as_slice-above.ensures.value ∙ c.in_ok-above.ensures)
    ∙ ap (λ (b : List ℕ). rows_above (map entry c.args.headers.now) b ++ b ∷ []) c.as_slice-bases.ensures)

pub returns : goal.returns
returns c =
    let same : c.deref_mut.result.now ≡ c.in_ok-rows.rows.items = search (rules, c.deref_mut.ensures) in
    subst (λ z. IfOk c.merge.result (λ order. order ≡ z))
    (merged_is c.args.headers.now c.args.orders.now c.requires.kept c.args.shape.now c.requires.below (length c.args.headers.now) refl (rows_of c.deref_mut.result.now)
    (ap rows_of same
    ∙ c.in_ok-rows.ensures
    ∙ ap (λ (a : List (List ℕ)). a ++ c.as_slice-bases.result.now ∷ []) (c.as_slice-above.ensures.value ∙ c.in_ok-above.ensures)
    ∙ ap (λ (b : List ℕ). rows_above (map entry c.args.headers.now) b ++ b ∷ []) c.as_slice-bases.ensures)
    c.push.new.self (c.in_ok-push.ensures.ok ∙ ap (λ (f : List ℕ). f ++ length c.args.headers.now ∷ []) c.new-first.ensures))
    c.merge.ensures
