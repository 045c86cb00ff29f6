use Rattle.std.proofs.Common.{◌++◌, ◌∙◌, map, sym, ap, append-nil, arith}
use Rattle.std.specs.Option.{option_map}
use Rattle.std.proofs.lemmas.Option.{slice_get_past}
use Rattle.py_check_overrides.specs.Overrides.{listed}
use Rattle.py_check_overrides.specs.Views.{own}
use Rattle.py_check_overrides.proofs.ViewLemmas.{owns_found}
use Rattle.py_check_overrides.proofs.member.add_all.Goals as goal

pub returns-in-None : goal.returns-in-None
returns-in-None c =
    let members = c.args.members.now in
    let none = slice_get_past members c.args.class (omega (arith, c.in-None.ensures.lookup)) in
    sym (append-nil (map own c.args.all.now)) ∙ sym (ap (λ o. map own c.args.all.now ++ listed o) (owns_found members c.args.class ∙ ap (option_map (map own)) none))
