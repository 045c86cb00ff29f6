use Rattle.std.proofs.Common.{map, sym, subst}
use Rattle.std.specs.Option.{option_map, option_copied}
use Rattle.py_typed.specs.declared.expression.TExpr.{TExpr}
use Rattle.py_typed.specs.Sorts.{Sort, sort}
use Rattle.py_typed.specs.Classes.{class_entry}
use Rattle.py_typed.specs.Expressions.{type_of}
use Rattle.py_check_messages.specs.Seen.{Finds}
use Rattle.py_check_coercions.specs.Boxes.{boxed}
use Rattle.py_check_coercions.proofs.PartLemmas.{type_at}
use Rattle.py_check_values.specs.Aims.{aim_seen}
use Rattle.py_check_targets.specs.Targets.{taking_fault}
use Rattle.py_check_assignments.proofs.AssignmentLemmas.{kept_says, lost_says}
use Rattle.py_check_assignments.proofs.assignments.unpacked.Goals as goal

pub returns-then-not-branch : goal.returns-then-not-branch
returns-then-not-branch c =
    let classes = map class_entry c.args.classes.now.list in
    let asked = option_map sort (option_copied c.args.asked) in
    let aims = map aim_seen c.args.aims.now in
    let right = c.in_ok-takes_several.field-0 in
    let Found : TExpr → Type 0 = λ x. Finds right c.args.faults.now c.takes_several.new.faults c.args.span (taking_fault classes asked aims (sort x.ty)) in
    let Typed : Sort → Type 0 = λ s. Finds right c.args.faults.now c.takes_several.new.faults c.args.span (taking_fault classes asked aims s) in
    let found = subst Typed (sym (type_at c.args.e.value)) (subst Found c.deref.ensures c.in_ok-takes_several.ensures) in
    lost_says boxed c.args.span (taking_fault classes asked aims (type_of (boxed c.args.e))) (boxed c.args.e) right c.args.faults.now c.takes_several.new.faults found c.if-not-branch.true

pub returns : goal.returns
returns c =
    let classes = map class_entry c.args.classes.now.list in
    let asked = option_map sort (option_copied c.args.asked) in
    let aims = map aim_seen c.args.aims.now in
    let right = c.in_ok-takes_several.field-0 in
    let Found : TExpr → Type 0 = λ x. Finds right c.args.faults.now c.takes_several.new.faults c.args.span (taking_fault classes asked aims (sort x.ty)) in
    let Typed : Sort → Type 0 = λ s. Finds right c.args.faults.now c.takes_several.new.faults c.args.span (taking_fault classes asked aims s) in
    let found = subst Typed (sym (type_at c.args.e.value)) (subst Found c.deref.ensures c.in_ok-takes_several.ensures) in
    kept_says boxed c.args.span (taking_fault classes asked aims (type_of (boxed c.args.e))) c.args.e right c.args.faults.now c.takes_several.new.faults found c.if-not-branch.false
