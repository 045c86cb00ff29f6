use Rattle.std.proofs.Common.{map, ap}
use Rattle.std.specs.Option.{option_map, option_copied}
use Rattle.py_syntax.specs.Expressions.{expr_tree}
use Rattle.py_typed.specs.Sorts.{sort}
use Rattle.py_typed.specs.Classes.{class_entry}
use Rattle.py_check_coercions.specs.Boxes.{boxed}
use Rattle.py_check_values.specs.Aims.{aim_seen}
use Rattle.py_check_targets.specs.Targets.{assigned}
use Rattle.py_check_assignments.proofs.AssignmentLemmas.{parts_typed}
use Rattle.py_check_assignments.proofs.assignments.assigned_to.Goals as goal

pub returns : goal.returns
returns c =
    parts_typed c.args.span (assigned (map class_entry c.args.classes.now.list) (expr_tree c.args.target.now) (option_map sort (option_copied c.args.asked))) _ _ (map aim_seen c.in-Some.aims) (boxed c.in-Some-e.e) c.takes_value.result c.args.faults.now c.takes_value.new.faults
    (ap (option_map (map aim_seen)) c.in-Some.is) (ap (option_map boxed) c.in-Some-e.is) c.takes_value.ensures
