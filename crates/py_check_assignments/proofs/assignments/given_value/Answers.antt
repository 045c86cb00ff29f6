use Rattle.std.proofs.Common.{rules, ◌≡◌, ◌∙◌, Option, subst}
use Rattle.std.specs.Option.{option_map, option_copied}
use Rattle.py_syntax.specs.Expressions.{expr_tree}
use Rattle.py_typed.specs.Sorts.{Sort, sort}
use Rattle.py_check_context.specs.Context.{context, wants_some}
use Rattle.py_check_messages.specs.Seen.{Tells}
use Rattle.py_check_coercions.specs.Boxes.{boxed}
use Rattle.py_check_places.specs.Views.{known_at}
use Rattle.py_check_targets.specs.Targets.{typed_at}
use Rattle.py_check_targets.specs.Views.{boxed_sort}
use Rattle.py_check_targets.proofs.SeenLemmas.{same_seen}
use Rattle.py_check_assignments.specs.Assignments.{value_for}
use Rattle.py_check_assignments.proofs.assignments.given_value.Goals as goal

pub returns-clause-value : goal.returns-clause-value
returns-clause-value c =
    let scope = context c.args.scope.now in
    let known = known_at c.args.place.now in
    let e = expr_tree c.args.e.now in
    let same : option_map sort (option_copied c.as_deref.result) ≡ option_map boxed_sort c.in_ok-asked.asked = search (rules, c.as_deref.ensures) in
    let Value : Option Sort → Type 0 = λ a. Tells boxed c.in_ok-e.e c.new-said.result c.value_asked.new.faults (typed_at scope known (wants_some a) e) in
    same_seen boxed c.in_ok-e.e c.new-said.result c.value_asked.new.faults (value_for scope known (expr_tree c.args.target.now) e) c.new-said.ensures (subst Value (same ∙ c.in_ok-asked.ensures) c.in_ok-e.ensures)
