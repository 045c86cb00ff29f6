use Rattle.std.proofs.Common.{◌≡◌, ◌++◌, ◌∙◌, List, IfOk, map, ap, subst}
use Rattle.std.specs.Option.{option_map}
use Rattle.py_typed.specs.Statements as act
use Rattle.py_typed.specs.Statements.{TypedTarget, typed_target}
use Rattle.py_check_coercions.specs.Boxes.{boxed}
use Rattle.py_check_values.specs.Aims.{aim_seen}
use Rattle.py_check_targets.specs.Targets.{target_of}
use Rattle.py_check_targets.specs.Views.{boxed_act}
use Rattle.py_check_assignments.proofs.annotations.act_on.Goals as goal

pub returns : goal.returns
returns c =
    let P : List TypedTarget → Type 0 = λ l. IfOk c.act_of.result (λ t. option_map boxed_act t ≡ option_map (act.Assign l) (option_map boxed c.args.e)) in
    subst P
    (c.in_ok-put_target.ensures
    ∙ ap (λ l. map typed_target l ++ target_of (aim_seen c.into_inner.result)) c.new-targets.ensures
    ∙ ap (λ a. target_of (aim_seen a)) c.into_inner.ensures)
    c.act_of.ensures
