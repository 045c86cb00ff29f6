use Rattle.std.proofs.Common.{◌++◌, ◌∙◌, map, slice_get, ap}
use Rattle.std.proofs.lemmas.List.{append_assoc}
use Rattle.py_typed.specs.Classes.{class_entry}
use Rattle.py_check_context.specs.Context.{context}
use Rattle.py_check_classes.specs.Views.{class_parts}
use Rattle.py_check_flow.proofs.BindingLemmas.{if_ok}
use Rattle.py_check_overrides.specs.Overrides.{override_said}
use Rattle.py_check_overrides.specs.Views.{verdict}
use Rattle.py_check_definitions.specs.Classes.{heading_said}
use Rattle.py_check_definitions.specs.Views.{classes_seen}
use Rattle.py_check_definitions.proofs.definitions.add_whole.Goals as goal

pub returns : goal.returns
returns c =
    let of_header = heading_said (classes_seen c.args.classes) (context c.args.scope.now) c.args.number c.args.span (class_parts c.args.tree.now) in
    let of_members = override_said (map class_entry c.args.scope.now.classes.now.list) c.args.span (slice_get (map verdict c.args.classes.verdicts.now) c.args.number) in
    if_ok c.add_members_said.result _ _
    (λ done e. e ∙ ap (λ l. l ++ of_members) c.in_ok-add_heading.ensures ∙ append_assoc c.args.faults.now of_header of_members)
    c.add_members_said.ensures
