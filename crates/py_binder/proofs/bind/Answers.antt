use Rattle.std.proofs.Common.{◌≡◌, ℕ, List, map, ◌++◌, ◌∙◌, ap}
use Rattle.py_syntax.specs.Statements.{body_tree}
use Rattle.py_binder.specs.declared.sight.Home.TheVariants.{InModule}
use Rattle.py_binder.specs.Sights.{suite_sights}
use Rattle.py_binder.specs.Scope.{role_among, function_scope, all_there, seen_there, held_there}
use Rattle.py_binder.specs.Faults.{faults_among}
use Rattle.py_binder.specs.Collected.{sights_of}
use Rattle.py_binder.specs.Tables.{table_role, inside_role}
use Rattle.py_binder.proofs.BindLemmas.{module_scoped, functions_scoped, module_faulted}
use Rattle.py_binder.proofs.TableLemmas.{from_nothing}
use Rattle.py_binder.proofs.bind.Goals as goal

pub returns-clause-top : goal.returns-clause-top
returns-clause-top c =
    let body = c.args.m.now.body in
    let now = c.as_slice.result.now in
    let s = sights_of c.see_all.new.sights.items in
    let t = table_role c.in_ok-table.table in
    let r = inside_role c.in_module-inside.result in
    let seen : s ≡ suite_sights InModule (body_tree now) = c.in_ok-see_all.ensures ∙ ap (λ l. sights_of l ++ suite_sights InModule (body_tree now)) c.new-sights.ensures.items in
    let told : (name : List ℕ) → t name ≡ role_among s name = λ name. c.in_ok-table.ensures name ∙ ap (λ x. role_among (sights_of x) name) c.as_slice-2.ensures.value in
    let all : c.as_slice-4.result.now ≡ all_there seen_there s = c.as_slice-4.ensures.value ∙ from_nothing _ _ _ c.in_ok-add_seen.ensures c.new-seen.ensures.items ∙ ap (λ x. all_there seen_there (sights_of x)) c.as_slice-3.ensures.value in
    c.in_ok-top.ensures ∙ module_scoped body now s r t c.as_slice.ensures seen c.in_module-inside.ensures.role told c.as_slice-4.result.now all

pub returns-clause-funcs : goal.returns-clause-funcs
returns-clause-funcs c =
    let body = c.args.m.now.body in
    let now = c.as_slice.result.now in
    let s = sights_of c.see_all.new.sights.items in
    let t = table_role c.in_ok-table.table in
    let r = inside_role c.in_module-inside.result in
    let seen : s ≡ suite_sights InModule (body_tree now) = c.in_ok-see_all.ensures ∙ ap (λ l. sights_of l ++ suite_sights InModule (body_tree now)) c.new-sights.ensures.items in
    let told : (name : List ℕ) → t name ≡ role_among s name = λ name. c.in_ok-table.ensures name ∙ ap (λ x. role_among (sights_of x) name) c.as_slice-2.ensures.value in
    from_nothing _ _ _ c.in_ok-add_all_functions.ensures.scopes c.new-funcs.ensures
    ∙ ap (λ x. map (function_scope (table_role x)) (all_there held_there (sights_of c.as_slice-5.result.now))) c.in_module-inside.ensures.table
    ∙ ap (λ x. map (function_scope t) (all_there held_there (sights_of x))) c.as_slice-5.ensures.value
    ∙ functions_scoped body now s r t c.as_slice.ensures seen c.in_module-inside.ensures.role told

pub returns-clause-faults : goal.returns-clause-faults
returns-clause-faults c =
    let body = c.args.m.now.body in
    let now = c.as_slice.result.now in
    let s = sights_of c.see_all.new.sights.items in
    let t = table_role c.in_ok-table.table in
    let r = inside_role c.in_module-inside.result in
    let seen : s ≡ suite_sights InModule (body_tree now) = c.in_ok-see_all.ensures ∙ ap (λ l. sights_of l ++ suite_sights InModule (body_tree now)) c.new-sights.ensures.items in
    let told : (name : List ℕ) → t name ≡ role_among s name = λ name. c.in_ok-table.ensures name ∙ ap (λ x. role_among (sights_of x) name) c.as_slice-2.ensures.value in
    from_nothing _ _ _ c.in_ok-add_all_functions.ensures.faults c.new-faults.ensures
    ∙ ap (λ x. faults_among (table_role x) r (sights_of c.as_slice-5.result.now)) c.in_module-inside.ensures.table
    ∙ ap (λ x. faults_among t r (sights_of x)) c.as_slice-5.ensures.value
    ∙ module_faulted body now s r t c.as_slice.ensures seen c.in_module-inside.ensures.role told
