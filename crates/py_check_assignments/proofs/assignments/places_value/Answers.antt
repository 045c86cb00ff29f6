use Rattle.std.proofs.Common.{◌≡◌, Bool, List, map, ap, sym, ◌∙◌, subst₂}
use Rattle.std.specs.Option.{option_map, option_copied}
use Rattle.py_syntax.specs.Expressions.{expr_tree}
use Rattle.py_typed.specs.Sorts.{sort}
use Rattle.py_typed.specs.Classes.{class_entry}
use Rattle.py_typed.specs.Statements.{typed_target}
use Rattle.py_check_messages.specs.Seen.{Tells, judged}
use Rattle.py_check_coercions.specs.Boxes.{boxed}
use Rattle.py_check_places.specs.Shapes.{is_flat}
use Rattle.py_check_values.specs.declared.aims.Aim as declared
use Rattle.py_check_values.specs.Aims.{aim_seen}
use Rattle.py_check_targets.specs.Targets.{are_placed, value_assigned}
use Rattle.py_check_assignments.proofs.AssignmentLemmas.{misplaced_says, placed_says}
use Rattle.py_check_assignments.proofs.assignments.places_value.Goals as goal

pub returns-then-not-are_placed : goal.returns-then-not-are_placed
returns-then-not-are_placed c =
    let classes = map class_entry c.args.classes.now.list in
    let target = expr_tree c.args.target.now in
    let asked = option_map sort (option_copied c.args.asked) in
    let aims = map aim_seen c.args.aims in
    let same : c.are_placed.result ≡ are_placed (is_flat target) aims = c.are_placed.ensures ∙ ap (λ f. are_placed f (map aim_seen c.as_slice.result.now)) c.is_flat.ensures ∙ ap (λ l. are_placed (is_flat target) (map aim_seen l)) c.as_slice.ensures in
    misplaced_says classes c.args.span target asked aims (boxed c.args.e) c.refused.result c.args.faults.now c.refused.new.faults (sym same ∙ c.if-not-are_placed.true) c.refused.ensures

pub returns : goal.returns
returns c =
    let classes = map class_entry c.args.classes.now.list in
    let target = expr_tree c.args.target.now in
    let asked = option_map sort (option_copied c.args.asked) in
    let aims = map aim_seen c.args.aims in
    let same : c.are_placed.result ≡ are_placed (is_flat target) aims = c.are_placed.ensures ∙ ap (λ f. are_placed f (map aim_seen c.as_slice.result.now)) c.is_flat.ensures ∙ ap (λ l. are_placed (is_flat target) (map aim_seen l)) c.as_slice.ensures in
    let Told : Bool → List declared.Aim → Type 0 = λ several l. Tells boxed c.in_ok-e.e c.args.faults.now c.value_assigned.new.faults (judged c.args.span (value_assigned classes several asked (map aim_seen l) (boxed c.args.e))) in
    placed_says classes c.args.span target asked aims (boxed c.args.e) c.in_ok-e.e (map typed_target c.in_ok-targets.targets) c.act_of.result c.args.faults.now c.value_assigned.new.faults
    (sym same ∙ c.if-not-are_placed.false) (subst₂ Told c.is_row-several.ensures c.as_slice-taken.ensures c.in_ok-e.ensures) c.in_ok-targets.ensures c.act_of.ensures
