use Rattle.std.proofs.Common.{◌≡◌, ◌++◌, ◌∙◌, List, map, IfOk, ap, sym, subst}
use Rattle.py_syntax.specs.Expressions.{ExprTree, expr_tree}
use Rattle.py_syntax.specs.Statements.{FuncTree}
use Rattle.py_binder.proofs.DefinitionLemmas.{func_tree_at}
use Rattle.py_check_context.specs.Context.{context}
use Rattle.py_check_places.specs.Views.{known_at}
use Rattle.py_check_definitions.specs.Decorators.{decorators_typed, decorators_said}
use Rattle.py_check_definitions.proofs.definitions.add_marks.Goals as goal

pub returns-clause-typed : goal.returns-clause-typed
returns-clause-typed c =
    let P : List ExprTree → Type 0 = λ es. IfOk c.add_parts.result (λ typed. typed ≡ decorators_typed (context c.args.scope.now) (known_at c.args.place.now) es) in
    subst P (ap (map expr_tree) c.as_slice.ensures ∙ ap (λ (t : FuncTree). t.marks) (sym (func_tree_at c.args.f.now))) c.add_parts.ensures.typed

pub returns-clause-told : goal.returns-clause-told
returns-clause-told c =
    let P : List ExprTree → Type 0 = λ es. IfOk c.add_parts.result (λ typed. c.add_parts.new.faults ≡ c.args.faults.now ++ decorators_said (context c.args.scope.now) (known_at c.args.place.now) es) in
    subst P (ap (map expr_tree) c.as_slice.ensures ∙ ap (λ (t : FuncTree). t.marks) (sym (func_tree_at c.args.f.now))) c.add_parts.ensures.told
