use Rattle.std.proofs.Common.{List, map, ap, subst, Err, IfOk}
use Rattle.std.specs.Option.{option_map}
use Rattle.py_typed.specs.Classes.{class_entry}
use Rattle.py_check_messages.specs.Seen.{Tells, judged}
use Rattle.py_check_messages.specs.Messages.{no_target}
use Rattle.py_check_coercions.specs.Boxes.{boxed}
use Rattle.py_check_values.specs.declared.aims.Aim as declared
use Rattle.py_check_values.specs.Aims.{aim_seen}
use Rattle.py_check_values.specs.Assignments.{lacking_fault}
use Rattle.py_check_targets.specs.Targets.{fault_or}
use Rattle.py_check_targets.specs.Views.{boxed_act}
use Rattle.py_check_assignments.specs.Assignments.{row_refused}
use Rattle.py_check_assignments.proofs.AssignmentLemmas.{parts_typed}
use Rattle.py_check_assignments.proofs.updates.refuse_row.Goals as goal

pub returns : goal.returns
returns c =
    let classes = map class_entry c.args.classes.now.list in
    let Said : List declared.Aim → Type 0 = λ l. IfOk c.refuse_aims.result (λ t. Tells boxed_act t c.args.faults.now c.refuse_aims.new.faults (judged c.args.span (fault_or (lacking_fault classes (map aim_seen l)) (Err no_target)))) in
    parts_typed c.args.span (row_refused classes) _ _ (map aim_seen c.in-Some.aims) (boxed c.in-Some-e.e) c.refuse_aims.result c.args.faults.now c.refuse_aims.new.faults
    (ap (option_map (map aim_seen)) c.in-Some.is) (ap (option_map boxed) c.in-Some-e.is) (subst Said c.as_slice.ensures c.refuse_aims.ensures)
