use Rattle.std.proofs.Common.{rules, ◌≡◌, true, false, map}
use Rattle.py_typed.specs.Sorts.{sort}
use Rattle.py_typed.specs.Classes.{class_entry}
use Rattle.py_check_messages.specs.Seen.{Finds}
use Rattle.py_check_coercions.specs.Boxes.{boxed}
use Rattle.py_check_values.specs.Aims.{aim_seen}
use Rattle.py_check_values.specs.Assignments.{binding_fault, as_bound}
use Rattle.py_check_values.proofs.BoundLemmas.{refused, given}
use Rattle.py_check_values.proofs.assignments.assigned.Goals as goal

pub returns-then-not-branch : goal.returns-then-not-branch
returns-then-not-branch c =
    let found : Finds c.in_ok-binds.field-0 c.args.faults.now c.binds.new.faults c.args.span (binding_fault (map class_entry c.args.classes.now.list) (aim_seen c.args.aim.now) (sort c.in-Some.e.value.ty)) = search (rules, c.in_ok-binds.ensures) in
    let wrong : c.in_ok-binds.field-0 ≡ false = search rules in
    refused c.args.span (binding_fault (map class_entry c.args.classes.now.list) (aim_seen c.args.aim.now)) (as_bound (aim_seen c.args.aim.now)) c.args.e c.in-Some.e c.in_ok-binds.field-0 c.args.faults.now c.binds.new.faults c.in-Some.is found wrong

pub returns : goal.returns
returns c =
    let found : Finds c.in_ok-binds.field-0 c.args.faults.now c.binds.new.faults c.args.span (binding_fault (map class_entry c.args.classes.now.list) (aim_seen c.args.aim.now) (sort c.in-Some.e.value.ty)) = search (rules, c.in_ok-binds.ensures) in
    let holds : c.in_ok-binds.field-0 ≡ true = search rules in
    given c.args.span (binding_fault (map class_entry c.args.classes.now.list) (aim_seen c.args.aim.now)) (as_bound (aim_seen c.args.aim.now)) c.args.e c.in-Some.e c.in_ok-binds.field-0 c.args.faults.now c.binds.new.faults (boxed c.in_ok-e.e) c.in-Some.is found holds c.in_ok-e.ensures
