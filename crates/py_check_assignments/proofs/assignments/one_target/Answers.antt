use Rattle.std.proofs.Common.{rules, ◌≡◌, ◌∙◌, None, Option, map, subst}
use Rattle.std.specs.Option.{option_map, option_copied}
use Rattle.py_syntax.specs.Expressions.{expr_tree}
use Rattle.py_typed.specs.Sorts.{Sort, sort}
use Rattle.py_check_context.specs.Context.{context, wants_some}
use Rattle.py_check_messages.specs.Seen.{Tells}
use Rattle.py_check_messages.proofs.RowLemmas.{two_parts}
use Rattle.py_check_coercions.specs.Boxes.{boxed}
use Rattle.py_check_places.specs.Views.{known_at}
use Rattle.py_check_values.specs.Aims.{aim_seen}
use Rattle.py_check_targets.specs.Targets.{assigned, target_aims, typed_at}
use Rattle.py_check_targets.specs.Views.{boxed_sort, boxed_act}
use Rattle.py_check_assignments.specs.Assignments.{value_for}
use Rattle.py_check_assignments.proofs.AssignmentLemmas.{is_asked_for}
use Rattle.py_check_assignments.proofs.assignments.one_target.Goals as goal

pub returns-in-Ok-clause-told : goal.returns-in-Ok-clause-told
returns-in-Ok-clause-told c =
    let scope = context c.args.scope.now in
    let known = known_at c.args.place.now in
    let target = expr_tree c.args.target.now in
    let e = expr_tree c.args.e.now in
    let asked = is_asked_for scope known target c.in_ok-asked.asked c.in_ok-aims.aims c.is_row.result c.is_row.ensures c.in_ok-aims.ensures.0 c.in_ok-asked.ensures in
    let same : option_map sort (option_copied c.as_deref.result) ≡ option_map boxed_sort c.in_ok-asked.asked = search (rules, c.as_deref.ensures) in
    let Value : Option Sort → Type 0 = λ a. Tells boxed c.in_ok-e.e c.target_aims.new.faults c.value_asked.new.faults (typed_at scope known (wants_some a) e) in
    two_parts c.args.span (assigned scope.classes target None) (map aim_seen) boxed boxed_act (target_aims scope known target) (value_for scope known target e) c.in_ok-aims.aims c.in_ok-e.e c.in-Ok.kind c.args.faults.now c.target_aims.new.faults c.value_asked.new.faults c.assigned_to.new.faults
    c.in_ok-aims.ensures (subst Value (same ∙ asked) c.in_ok-e.ensures) c.in-Ok.ensures
