use Rattle.std.proofs.Common.{◌∙◌, ℕ, IfOk, length, map, ap, sym, subst}
use Rattle.std.proofs.lemmas.List.{length-map}
use Rattle.std.specs.Option.{option_map, option_copied}
use Rattle.py_typed.specs.Sorts.{sort}
use Rattle.py_typed.specs.Classes.{class_entry}
use Rattle.py_check_messages.specs.Seen.{Finds}
use Rattle.py_check_values.specs.Aims.{aim_seen}
use Rattle.py_check_targets.specs.Targets.{several_fault, asked_fault}
use Rattle.py_check_targets.proofs.FaultLemmas.{found_second}
use Rattle.py_check_targets.proofs.several.takes_several.Goals as goal

pub returns : goal.returns
returns c =
    let classes = map class_entry c.args.classes.now.list in
    let aims = map aim_seen c.args.aims.now in
    let asked = option_map sort (option_copied c.args.asked) in
    let s = sort c.args.t.now in
    let P : ℕ → Type 0 = λ n. IfOk c.fits_asked.result (λ right. Finds right c.binds_several.new.faults c.fits_asked.new.faults c.args.span (asked_fault classes n asked s)) in
    found_second c.args.span (several_fault classes aims s) (asked_fault classes (length aims) asked s) c.in_ok-binds_several.field-0 c.fits_asked.result c.args.faults.now c.binds_several.new.faults c.fits_asked.new.faults
    c.in_ok-binds_several.ensures c.if-not-branch.false (subst P (sym (length-map c.args.aims.now aim_seen)) c.fits_asked.ensures)
