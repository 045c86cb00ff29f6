use Rattle.std.proofs.Common.{map, ap, subst}
use Rattle.py_typed.specs.Classes.{class_entry}
use Rattle.py_check_messages.specs.Seen.{Finds, Tells, judged}
use Rattle.py_check_coercions.specs.Boxes.{boxed}
use Rattle.py_check_values.specs.Assignments.{assignment}
use Rattle.py_check_values.specs.declared.aims.Aim as declared
use Rattle.py_check_values.specs.Aims.{Aim, aim_seen}
use Rattle.py_check_targets.specs.Targets.{annotation_fault, act_of, target_of}
use Rattle.py_check_targets.specs.Views.{boxed_aim}
use Rattle.py_check_assignments.proofs.AssignmentLemmas.{wrong_says, given_says}
use Rattle.py_check_assignments.proofs.annotations.given_all.Goals as goal

pub returns-then-not-branch : goal.returns-then-not-branch
returns-then-not-branch c =
    let right = c.in_ok-may_be_annotated.field-0 in
    let Found : declared.Aim → Type 0 = λ a. Finds right c.args.faults.now c.may_be_annotated.new.faults c.args.span (annotation_fault c.args.x.now c.args.bound (aim_seen a)) in
    let classes = map class_entry c.args.classes.now.list in
    let a = boxed_aim c.args.aim in
    wrong_says c.args.span (annotation_fault c.args.x.now c.args.bound a) (act_of (target_of a) (assignment classes a (boxed c.args.e))) right c.args.faults.now c.may_be_annotated.new.faults
    (subst Found c.deref.ensures c.in_ok-may_be_annotated.ensures) c.if-not-branch.true

pub returns : goal.returns
returns c =
    let classes = map class_entry c.args.classes.now.list in
    let a = boxed_aim c.args.aim in
    let right = c.in_ok-may_be_annotated.field-0 in
    let Found : declared.Aim → Type 0 = λ x. Finds right c.args.faults.now c.may_be_annotated.new.faults c.args.span (annotation_fault c.args.x.now c.args.bound (aim_seen x)) in
    let Told : Aim → Type 0 = λ s. Tells boxed c.in_ok-e.e c.may_be_annotated.new.faults c.assigned.new.faults (judged c.args.span (assignment classes s (boxed c.args.e))) in
    given_says classes c.args.span (annotation_fault c.args.x.now c.args.bound a) a (boxed c.args.e) right c.in_ok-e.e c.act_on.result c.args.faults.now c.may_be_annotated.new.faults c.assigned.new.faults
    (subst Found c.deref.ensures c.in_ok-may_be_annotated.ensures) c.if-not-branch.false
    (subst Told (ap aim_seen c.deref-2.ensures) c.in_ok-e.ensures) c.act_on.ensures
