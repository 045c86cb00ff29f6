use Rattle.std.proofs.Common.{◌≡◌, ◌++◌, ◌∙◌, List, map, Option, IfOk, ap, sym, subst₂}
use Rattle.std.proofs.lemmas.Option.{slice_get-map}
use Rattle.std.specs.Option.{option_map}
use Rattle.py_typed.specs.declared.classes.ClassInfo.{ClassInfo}
use Rattle.py_typed.specs.Classes.{class_entry}
use Rattle.py_check_overrides.specs.Overrides.{Verdict, override_said}
use Rattle.py_check_overrides.specs.Views.{verdict}
use Rattle.class_layout.proofs.LayoutLemmas.{found_at}
use Rattle.py_check_definitions.proofs.definitions.add_members_said.Goals as goal

pub returns : goal.returns
returns c =
    let P : List ClassInfo → Option Verdict → Type 0 = λ classes v. IfOk c.add_override_said.result (λ done. c.add_override_said.new.faults ≡ c.args.faults.now ++ override_said (map class_entry classes) c.args.span v) in
    let looked = found_at c.args.verdicts.now c.args.number c.get.result c.get.ensures.lookup.0 c.get.ensures.lookup.1 in
    subst₂ P c.as_slice-classes.ensures (ap (option_map verdict) looked ∙ sym (slice_get-map verdict c.args.verdicts.now c.args.number)) c.add_override_said.ensures
