use Rattle.std.proofs.Common.{◌≡◌, ◌∙◌, ap, sym}
use Rattle.std.specs.Option.{option_map}
use Rattle.py_syntax.specs.Expressions.{expr_tree}
use Rattle.py_syntax.specs.Statements.{maybe_expr}
use Rattle.py_check_context.specs.Context.{context}
use Rattle.py_check_flow.proofs.BindingLemmas.{if_ok}
use Rattle.py_check_places.specs.Views.{known_at}
use Rattle.py_check_targets.specs.Views.{own_seen}
use Rattle.py_check_assignments.specs.Assignments.{other_sort}
use Rattle.py_check_assignments.proofs.AssignmentLemmas.{own_unbound}
use Rattle.py_check_assignments.proofs.annotations.annotate_at.Goals as goal

pub returns-in-Some-clause-known : goal.returns-in-Some-clause-known
returns-in-Some-clause-known c =
    let scope = context c.args.scope.now in
    let known = known_at c.args.place.now in
    let target = expr_tree c.args.target.now in
    let own = sym c.own_attribute.ensures ∙ ap (option_map own_seen) c.in-Some.is in
    if_ok c.annotates_own.result _ _ (λ t told. sym (own_unbound scope known target (own_seen c.in-Some.field-0) (other_sort scope known target (maybe_expr c.args.e.now)) own)) c.annotates_own.ensures
