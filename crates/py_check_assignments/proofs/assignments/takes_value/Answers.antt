use Rattle.std.proofs.Common.{List, map, subst}
use Rattle.std.specs.Option.{option_map, option_copied}
use Rattle.py_syntax.specs.Expressions.{expr_tree}
use Rattle.py_typed.specs.Sorts.{sort}
use Rattle.py_typed.specs.Classes.{class_entry}
use Rattle.py_check_messages.specs.Seen.{Finds}
use Rattle.py_check_coercions.specs.Boxes.{boxed}
use Rattle.py_check_values.specs.declared.aims.Aim as declared
use Rattle.py_check_values.specs.Aims.{aim_seen}
use Rattle.py_check_values.specs.Assignments.{lacking_fault}
use Rattle.py_check_targets.specs.Targets.{placed}
use Rattle.py_check_assignments.proofs.AssignmentLemmas.{wrong_says, right_says}
use Rattle.py_check_assignments.proofs.assignments.takes_value.Goals as goal

pub returns-then-not-branch : goal.returns-then-not-branch
returns-then-not-branch c =
    let classes = map class_entry c.args.classes.now.list in
    let aims = map aim_seen c.args.aims in
    let right = c.in_ok-are_declared.field-0 in
    let Found : List declared.Aim → Type 0 = λ l. Finds right c.args.faults.now c.are_declared.new.faults c.args.span (lacking_fault classes (map aim_seen l)) in
    wrong_says c.args.span (lacking_fault classes aims) (placed classes (expr_tree c.args.target.now) (option_map sort (option_copied c.args.asked)) (aims, boxed c.args.e)) right c.args.faults.now c.are_declared.new.faults
    (subst Found c.as_slice.ensures c.in_ok-are_declared.ensures) c.if-not-branch.true

pub returns : goal.returns
returns c =
    let classes = map class_entry c.args.classes.now.list in
    let aims = map aim_seen c.args.aims in
    let right = c.in_ok-are_declared.field-0 in
    let Found : List declared.Aim → Type 0 = λ l. Finds right c.args.faults.now c.are_declared.new.faults c.args.span (lacking_fault classes (map aim_seen l)) in
    right_says c.args.span (lacking_fault classes aims) (placed classes (expr_tree c.args.target.now) (option_map sort (option_copied c.args.asked)) (aims, boxed c.args.e)) right c.places_value.result c.args.faults.now c.are_declared.new.faults c.places_value.new.faults
    (subst Found c.as_slice.ensures c.in_ok-are_declared.ensures) c.if-not-branch.false c.places_value.ensures
