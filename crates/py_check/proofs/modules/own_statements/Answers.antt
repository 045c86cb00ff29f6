use Rattle.std.proofs.Common.{◌≡◌, ◌++◌, List, map, IfOk, subst, subst₂}
use Rattle.std.specs.Option.{option_map}
use Rattle.py_syntax.specs.Statements.{body_tree}
use Rattle.py_binder.specs.declared.scope.Scope.{Scope}
use Rattle.py_typed.specs.Statements.{typed_stmt}
use Rattle.py_check_context.specs.Context.{Context}
use Rattle.py_check_places.specs.Views.{known_at}
use Rattle.py_check_definitions.specs.Views.{classes_seen}
use Rattle.py_check.specs.Module.{own_statements, fixed_sorts}
use Rattle.py_check.specs.Parts.{module_context_of, own_along}
use Rattle.py_check.proofs.WholeLemmas.{module_level}
use Rattle.py_check.proofs.modules.own_statements.Goals as goal

pub returns-clause-typed : goal.returns-clause-typed
returns-clause-typed c =
    let P : Context → Type 0 = λ w. IfOk c.statements_in.result (λ o. option_map (map typed_stmt) o.typed ≡ (own_statements w c.args.module_context.now.known.now.variables.keys (body_tree c.args.body.now)).got) in
    subst P (module_level _ (module_context_of c.args.module_context.now) c.args.scopes.now.top c.in_ok-names.ensures _ c.module_scope-scope.ensures) c.statements_in.ensures.typed

pub returns-clause-told : goal.returns-clause-told
returns-clause-told c =
    let P : Context → List Scope → Type 0 = λ w insides. IfOk c.statements_in.result (λ o. c.statements_in.new.faults ≡ c.args.faults.now ++ own_along (classes_seen c.args.module_context.now.tables) w c.args.module_context.now.known.now.variables.keys insides (body_tree c.args.body.now)) in
    subst₂ P (module_level _ (module_context_of c.args.module_context.now) c.args.scopes.now.top c.in_ok-names.ensures _ c.module_scope-scope.ensures) c.as_slice.ensures c.statements_in.ensures.told

pub returns-clause-known : goal.returns-clause-known
returns-clause-known c =
    let P : Context → Type 0 = λ w. IfOk c.statements_in.result (λ o. (known_at o.place).types.globals ≡ fixed_sorts w c.args.module_context.now.known.now.variables.keys (body_tree c.args.body.now)) in
    subst P (module_level _ (module_context_of c.args.module_context.now) c.args.scopes.now.top c.in_ok-names.ensures _ c.module_scope-scope.ensures) c.statements_in.ensures.known
