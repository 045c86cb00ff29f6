use Rattle.std.proofs.Common.{◌≡◌, ◌∙◌, false, map, ap, sym, subst₂}
use Rattle.py_typed.specs.declared.types.Ty.{Ty}
use Rattle.py_typed.specs.Sorts.{sort}
use Rattle.py_typed.specs.Classes.{class_entry}
use Rattle.py_check_messages.specs.Seen.{Finds}
use Rattle.py_check_coercions.specs.Boxes.{boxed}
use Rattle.py_check_values.specs.Assignments.{binding_fault}
use Rattle.py_check_values.specs.Aims.{Aim, aim_seen}
use Rattle.py_check_targets.specs.Targets.{is_placed}
use Rattle.py_check_targets.specs.Views.{boxed_aim, boxed_sort}
use Rattle.py_check_assignments.proofs.UpdateLemmas.{misplaced_says, unbound_says, bound_says}
use Rattle.py_check_assignments.proofs.updates.updated_to.Goals as goal

pub returns-then-not-is_placed : goal.returns-then-not-is_placed
returns-then-not-is_placed c =
    let unplaced : is_placed (boxed_aim c.args.aim) ≡ false = sym (c.is_placed.ensures ∙ ap (λ a. is_placed (aim_seen a)) c.deref.ensures) ∙ c.if-not-is_placed.true in
    misplaced_says (map class_entry c.args.classes.now.list) c.args.span (boxed_aim c.args.aim) c.args.op (boxed c.args.e) (boxed_sort c.args.ty) c.refused.result c.args.faults.now c.refused.new.faults unplaced c.refused.ensures

pub returns-then-not-branch : goal.returns-then-not-branch
returns-then-not-branch c =
    let classes = map class_entry c.args.classes.now.list in
    let right = c.in_ok-binds.field-0 in
    let Found : Aim → Ty → Type 0 = λ s t. Finds right c.args.faults.now c.binds.new.faults c.args.span (binding_fault classes s (sort t)) in
    unbound_says classes c.args.span (boxed_aim c.args.aim) c.args.op (boxed c.args.e) (boxed_sort c.args.ty) right c.args.faults.now c.binds.new.faults
    (sym (c.is_placed.ensures ∙ ap (λ a. is_placed (aim_seen a)) c.deref.ensures) ∙ c.if-not-is_placed.false)
    (subst₂ Found (ap aim_seen c.deref-2.ensures) c.deref-3.ensures c.in_ok-binds.ensures) c.if-not-branch.true

pub returns : goal.returns
returns c =
    let classes = map class_entry c.args.classes.now.list in
    let right = c.in_ok-binds.field-0 in
    let Found : Aim → Ty → Type 0 = λ s t. Finds right c.args.faults.now c.binds.new.faults c.args.span (binding_fault classes s (sort t)) in
    bound_says classes c.args.span (boxed_aim c.args.aim) c.args.op (boxed c.args.e) (boxed_sort c.args.ty) right c.written_back.result c.args.faults.now c.binds.new.faults c.written_back.new.faults
    (sym (c.is_placed.ensures ∙ ap (λ a. is_placed (aim_seen a)) c.deref.ensures) ∙ c.if-not-is_placed.false)
    (subst₂ Found (ap aim_seen c.deref-2.ensures) c.deref-3.ensures c.in_ok-binds.ensures) c.if-not-branch.false c.written_back.ensures
