use Rattle.std.specs.Option.{option_map, option_copied, option_zip}
use Rattle.std.proofs.Common.{rules, ◌≡◌, Option, IfOk, map, subst}
use Rattle.py_syntax.specs.Expressions.{expr_tree}
use Rattle.py_typed.specs.Sorts.{Sort, sort}
use Rattle.py_check_context.specs.Context.{context}
use Rattle.py_check_messages.specs.Seen.{Tells, ruled}
use Rattle.py_check_coercions.specs.Boxes.{boxed}
use Rattle.py_check_places.specs.Views.{known_at}
use Rattle.py_check_values.specs.Aims.{aim_seen}
use Rattle.py_check_targets.specs.Targets.{aims_behind, assigned}
use Rattle.py_check_targets.specs.Views.{boxed_sort, boxed_act}
use Rattle.py_check_assignments.proofs.AssignmentLemmas.{behind_says}
use Rattle.py_check_assignments.proofs.assignments.behind_value.Goals as goal

pub returns : goal.returns
returns c =
    let scope = context c.args.scope.now in
    let target = expr_tree c.args.target.now in
    let s = aims_behind scope (known_at c.args.place.now) target (option_map sort (option_copied c.args.t)) in
    let same : option_map sort (option_copied c.as_deref-asked.result) ≡ option_map boxed_sort c.args.given.asked = search (rules, c.as_deref-asked.ensures) in
    let P : Option Sort → Type 0 = λ a. IfOk c.assigned_to.result (λ r. Tells boxed_act r c.put_behind.new.faults c.assigned_to.new.faults (ruled c.args.span (assigned scope.classes target a) (option_zip (option_map (map aim_seen) c.in_ok-aims.aims) (option_map boxed c.args.given.e)))) in
    behind_says c.args.span (assigned scope.classes target (option_map boxed_sort c.args.given.asked)) s c.in_ok-aims.aims c.args.given.e c.args.given.said c.assigned_to.result c.args.faults.now c.aims_behind.new.faults c.put_behind.new.faults c.assigned_to.new.faults
    c.in_ok-aims.ensures c.in_ok-put_behind.ensures (subst P same c.assigned_to.ensures)
