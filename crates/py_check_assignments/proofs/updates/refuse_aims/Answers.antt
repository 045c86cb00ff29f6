use Rattle.std.proofs.Common.{map, Err}
use Rattle.py_typed.specs.Classes.{class_entry}
use Rattle.py_check_messages.specs.Messages.{no_target}
use Rattle.py_check_values.specs.Aims.{aim_seen}
use Rattle.py_check_values.specs.Assignments.{lacking_fault}
use Rattle.py_check_assignments.proofs.AssignmentLemmas.{wrong_says, right_says}
use Rattle.py_check_assignments.proofs.updates.refuse_aims.Goals as goal

pub returns-then-not-branch : goal.returns-then-not-branch
returns-then-not-branch c =
    wrong_says c.args.span (lacking_fault (map class_entry c.args.classes.now.list) (map aim_seen c.args.aims.now)) (Err no_target) c.in_ok-are_declared.field-0 c.args.faults.now c.are_declared.new.faults
    c.in_ok-are_declared.ensures c.if-not-branch.true

pub returns : goal.returns
returns c =
    right_says c.args.span (lacking_fault (map class_entry c.args.classes.now.list) (map aim_seen c.args.aims.now)) (Err no_target) c.in_ok-are_declared.field-0 c.refused.result c.args.faults.now c.are_declared.new.faults c.refused.new.faults
    c.in_ok-are_declared.ensures c.if-not-branch.false c.refused.ensures
