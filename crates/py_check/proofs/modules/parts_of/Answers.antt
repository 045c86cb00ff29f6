use Rattle.std.proofs.Common.{◌≡◌, ◌∙◌, ◌++◌, map, IfOk, ap, refl, subst, subst₂}
use Rattle.py_syntax.specs.Statements.{body_tree}
use Rattle.py_typed.specs.Statements.{typed_func, typed_suite, variable}
use Rattle.py_check_overrides.specs.Views.{owns, verdict}
use Rattle.py_check_definitions.specs.Classes.{ModuleClasses}
use Rattle.py_check_definitions.specs.Views.{headed_of}
use Rattle.py_check.specs.Module.{ModuleContext, global_variables, functions_by, top_by}
use Rattle.py_check.specs.Parts.{places_in, statements_along}
use Rattle.py_check.proofs.WholeLemmas.{lent_context, lent_classes}
use Rattle.py_check.proofs.modules.parts_of.Goals as goal

pub returns-clause-globals : goal.returns-clause-globals
returns-clause-globals c =
    let P : ModuleContext → Type 0 = λ e. IfOk c.typed_in.result (λ p. map variable p.globals ≡ global_variables e c.args.scopes.now.top (map headed_of c.args.functions.now) (body_tree c.args.body.now)) in
    subst P (lent_context c.args.found.now c.args.tables.now _ c.as_slice-4.ensures.value _ c.as_slice-5.ensures _ (ap places_in c.as_slice-6.ensures)) c.typed_in.ensures.globals

pub returns-clause-funcs : goal.returns-clause-funcs
returns-clause-funcs c =
    let P : ModuleContext → Type 0 = λ e. IfOk c.typed_in.result (λ p. map typed_func p.funcs ≡ functions_by e c.args.scopes.now.top (map headed_of c.args.functions.now) (body_tree c.args.body.now)) in
    subst P (lent_context c.args.found.now c.args.tables.now _ c.as_slice-4.ensures.value _ c.as_slice-5.ensures _ (ap places_in c.as_slice-6.ensures)) c.typed_in.ensures.funcs

pub returns-clause-top : goal.returns-clause-top
returns-clause-top c =
    let P : ModuleContext → Type 0 = λ e. IfOk c.typed_in.result (λ p. typed_suite p.top ≡ top_by e c.args.scopes.now.top (map headed_of c.args.functions.now) (body_tree c.args.body.now)) in
    subst P (lent_context c.args.found.now c.args.tables.now _ c.as_slice-4.ensures.value _ c.as_slice-5.ensures _ (ap places_in c.as_slice-6.ensures)) c.typed_in.ensures.top

pub returns-clause-told : goal.returns-clause-told
returns-clause-told c =
    let P : ModuleClasses → ModuleContext → Type 0 = λ w e. IfOk c.typed_in.result (λ p. c.typed_in.new.faults ≡ c.args.faults.now ++ statements_along w e c.args.scopes.now.top c.args.scopes.now.funcs (map headed_of c.args.functions.now) (body_tree c.args.body.now)) in
    subst₂ P
    (lent_classes c.args.found.now c.args.tables.now _ c.as_slice-headers.ensures _ c.as_slice-2.ensures.value _ c.as_slice.ensures _ _ refl (owns c.in_ok-rows.rows) _ (ap owns c.as_slice-3.ensures) c.in_ok-rows.ensures (ap (map verdict) c.as_slice-7.ensures ∙ c.in_ok-verdicts.ensures))
    (lent_context c.args.found.now c.args.tables.now _ c.as_slice-4.ensures.value _ c.as_slice-5.ensures _ (ap places_in c.as_slice-6.ensures)) c.typed_in.ensures.told
