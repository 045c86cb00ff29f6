use Rattle.std.proofs.Common.{rules, ◌≡◌, ◌∙◌, Option, map, subst}
use Rattle.std.specs.Option.{option_map, option_copied}
use Rattle.py_syntax.specs.Expressions.{expr_tree}
use Rattle.py_typed.specs.Sorts.{Sort, sort}
use Rattle.py_check_context.specs.Context.{context, wants_some}
use Rattle.py_check_messages.specs.Seen.{Tells}
use Rattle.py_check_annotations.specs.Annotations.{annotation}
use Rattle.py_check_coercions.specs.Boxes.{boxed}
use Rattle.py_check_places.specs.Views.{known_at}
use Rattle.py_check_values.specs.Aims.{aim_seen}
use Rattle.py_check_targets.specs.Attributes.{declaring_fault}
use Rattle.py_check_targets.specs.Targets.{taken_own, target_aims, typed_at}
use Rattle.py_check_targets.specs.Views.{boxed_sort}
use Rattle.py_check_assignments.specs.Assignments.{value_for}
use Rattle.py_check_assignments.proofs.AssignmentLemmas.{is_asked_for, third_says}
use Rattle.py_check_assignments.proofs.annotations.gives_own.Goals as goal

pub returns : goal.returns
returns c =
    let scope = context c.args.scope.now in
    let known = known_at c.args.place.now in
    let target = expr_tree c.args.own.target.now in
    let e = expr_tree c.args.e.now in
    let asked = is_asked_for scope known target c.in_ok-asked.asked c.in_ok-aims.aims c.is_row.result c.is_row.ensures c.in_ok-aims.ensures.0 c.in_ok-asked.ensures in
    let same : option_map sort (option_copied c.as_deref.result) ≡ option_map boxed_sort c.in_ok-asked.asked = search (rules, c.as_deref.ensures) in
    let Value : Option Sort → Type 0 = λ a. Tells boxed c.in_ok-e.e c.is_type.new.faults c.value_asked.new.faults (typed_at scope known (wants_some a) e) in
    let told = subst Value (same ∙ asked) c.in_ok-e.ensures in
    third_says c.args.span (taken_own scope.classes target (declaring_fault scope.inside c.args.own.name.now c.args.span)) (target_aims scope known target) (annotation scope.meaning (expr_tree c.args.mark.now)) (value_for scope known target e)
    (option_map (map aim_seen) c.in_ok-aims.aims) (option_map boxed c.in_ok-e.e) c.in_ok-marked.marked c.given_own.result c.args.faults.now c.target_aims.new.faults c.is_type.new.faults c.value_asked.new.faults c.given_own.new.faults
    c.in_ok-aims.ensures.0 c.in_ok-aims.ensures.1 c.in_ok-marked.ensures told.0 told.1 c.given_own.ensures
