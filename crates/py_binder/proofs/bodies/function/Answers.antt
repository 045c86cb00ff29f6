use Rattle.std.proofs.Common.{◌≡◌, ℕ, List, ◌++◌, ◌∙◌, ap}
use Rattle.py_syntax.specs.Statements.{func_tree}
use Rattle.py_binder.specs.Scope.{first_sights, scope_of, function_scope, all_there, seen_there}
use Rattle.py_binder.specs.Faults.{body_faults}
use Rattle.py_binder.specs.Collected.{sights_of}
use Rattle.py_binder.specs.Tables.{table_role, inside_role}
use Rattle.py_binder.proofs.BindLemmas.{if_ok, on_ok_always, first_names, in_body, inner, function_scoped, function_faulted}
use Rattle.py_binder.proofs.TableLemmas.{from_nothing}
use Rattle.py_binder.proofs.bodies.function.Goals as goal

pub returns-clause-scope : goal.returns-clause-scope
returns-clause-scope c =
    let outer = table_role c.args.table.now in
    let s = sights_of c.see_all.new.sights.items in
    let p = c.add_params.new.names.items in
    let r = inside_role c.in_ok-inside.inside in
    let seen : s ≡ in_body c.as_slice.result.now = c.in_ok-see_all.ensures ∙ ap (λ l. sights_of l ++ in_body c.as_slice.result.now) c.new-sights.ensures.items in
    let named : p ≡ first_names c.as_slice-2.result.now = from_nothing _ _ _ c.in_ok-add_params.ensures c.new-names.ensures.items in
    let is : (name : List ℕ) → r name ≡ inner outer p s name = λ name. c.in_ok-inside.ensures.role name ∙ ap (λ x. inner outer x (sights_of c.as_slice-4.result.now) name) c.as_slice-3.ensures.value ∙ ap (λ x. inner outer p (sights_of x) name) c.as_slice-4.ensures.value in
    let all : c.as_slice-8.result.now ≡ p ++ all_there seen_there s = c.as_slice-8.ensures.value ∙ c.in_ok-add_seen.ensures ∙ ap (λ x. p ++ all_there seen_there (sights_of x)) c.as_slice-7.ensures.value in
    if_ok (λ x. x ≡ scope_of r c.as_slice-8.result.now) (λ x. x ≡ function_scope outer (func_tree c.args.f.now)) c.scope_of.result (λ x e. e ∙ function_scoped outer c.args.f.now c.as_slice-2.result.now c.as_slice.result.now s p r c.as_slice-2.ensures c.as_slice.ensures seen named is c.as_slice-8.result.now all)
    c.scope_of.ensures

pub returns-clause-faults : goal.returns-clause-faults
returns-clause-faults c =
    let outer = table_role c.args.table.now in
    let s = sights_of c.see_all.new.sights.items in
    let p = c.add_params.new.names.items in
    let r = inside_role c.in_ok-inside.inside in
    let seen : s ≡ in_body c.as_slice.result.now = c.in_ok-see_all.ensures ∙ ap (λ l. sights_of l ++ in_body c.as_slice.result.now) c.new-sights.ensures.items in
    let named : p ≡ first_names c.as_slice-2.result.now = from_nothing _ _ _ c.in_ok-add_params.ensures c.new-names.ensures.items in
    let is : (name : List ℕ) → r name ≡ inner outer p s name = λ name. c.in_ok-inside.ensures.role name ∙ ap (λ x. inner outer x (sights_of c.as_slice-4.result.now) name) c.as_slice-3.ensures.value ∙ ap (λ x. inner outer p (sights_of x) name) c.as_slice-4.ensures.value in
    let f = c.args.faults.now in
    let x = c.in_ok-refused.refused.keys in
    let listed : x ≡ first_sights p = c.in_ok-refused.ensures ∙ ap first_sights c.as_slice-5.ensures.value in
    on_ok_always c.scope_of.result
    (c.in_ok-add_body_faults.ensures
    ∙ ap (λ t. f ++ body_faults (table_role t) r x (sights_of c.as_slice-6.result.now)) c.in_ok-inside.ensures.table
    ∙ ap (λ l. f ++ body_faults outer r x (sights_of l)) c.as_slice-6.ensures.value
    ∙ ap (λ l. f ++ l) (function_faulted outer c.args.f.now c.as_slice-2.result.now c.as_slice.result.now s p r c.as_slice-2.ensures c.as_slice.ensures seen named is x listed))
