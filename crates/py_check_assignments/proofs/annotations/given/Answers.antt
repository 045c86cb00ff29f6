use Rattle.std.proofs.Common.{◌≡◌, Some, map, ap, ◌∙◌}
use Rattle.std.specs.Option.{option_map, option_copied, option_zip}
use Rattle.py_typed.specs.Sorts.{sort}
use Rattle.py_typed.specs.Classes.{class_entry}
use Rattle.py_check_coercions.specs.Boxes.{boxed}
use Rattle.py_check_targets.specs.Targets.{given}
use Rattle.py_check_targets.specs.Views.{boxed_aim}
use Rattle.py_check_assignments.proofs.AssignmentLemmas.{parts_typed}
use Rattle.py_check_assignments.proofs.annotations.given.Goals as goal

pub returns : goal.returns
returns c =
    let t = sort c.in-Some-t.field-0.now in
    let named : option_zip (option_map boxed_aim c.args.name.aim) (option_map sort (option_copied c.args.t)) ≡ Some (boxed_aim c.in-Some.aim, t) =
    ap (λ o. option_zip (option_map boxed_aim o) (option_map sort (option_copied c.args.t))) c.in-Some.is
    ∙ ap (λ o. option_zip (Some (boxed_aim c.in-Some.aim)) (option_map sort (option_copied o))) c.in-Some-t.is in
    parts_typed c.args.span (given (map class_entry c.args.classes.now.list) c.args.name.name.now c.args.name.bound) _ _ (boxed_aim c.in-Some.aim, t) (boxed c.in-Some-e.e) c.given_all.result c.args.faults.now c.given_all.new.faults
    named (ap (option_map boxed) c.in-Some-e.is) c.given_all.ensures
