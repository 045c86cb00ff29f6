use Rattle.std.proofs.Common.{◌∙◌, ap, sym}
use Rattle.py_typed.specs.Statements.{typed_target}
use Rattle.py_check_coercions.specs.Boxes.{boxed}
use Rattle.py_check_values.specs.Aims.{aim_seen}
use Rattle.py_check_targets.specs.Targets.{target_of}
use Rattle.py_check_targets.specs.Views.{boxed_aim, boxed_sort}
use Rattle.py_check_assignments.proofs.UpdateLemmas.{augmented_says, no_target_says}
use Rattle.py_check_assignments.proofs.updates.written_back.Goals as goal

pub returns-in-Some : goal.returns-in-Some
returns-in-Some c =
    augmented_says c.args.span c.args.op (boxed c.args.e) (boxed_sort c.args.ty) (target_of (boxed_aim c.args.aim)) (typed_target c.in-Some.target) c.augmented.result c.args.faults.now
    (ap (λ a. target_of (aim_seen a)) (sym c.into_inner.ensures) ∙ c.in-Some.ensures) c.augmented.ensures

pub returns-in-None : goal.returns-in-None
returns-in-None c =
    no_target_says c.args.span c.args.op (boxed c.args.e) (boxed_sort c.args.ty) (target_of (boxed_aim c.args.aim)) c.refused.result c.args.faults.now c.refused.new.faults
    (ap (λ a. target_of (aim_seen a)) (sym c.into_inner.ensures) ∙ c.in-None.ensures) c.refused.ensures
