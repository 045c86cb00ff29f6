use Rattle.std.proofs.Common.{◌≡◌, List, ℕ, Option, IfOk, map, ap, sym, ◌∙◌, subst₂}
use Rattle.std.specs.Option.{option_map, option_copied}
use Rattle.py_typed.specs.Sorts.{Sort, sort}
use Rattle.py_check_context.specs.Context.{context}
use Rattle.py_check_places.specs.Places.{known_behind}
use Rattle.py_check_targets.specs.Targets.{next_part}
use Rattle.py_check_targets.specs.Views.{parts_from}
use Rattle.py_check_targets.proofs.AimLemmas.{part_at}
use Rattle.py_check_targets.proofs.targets.beyond.Goals as goal

pub returns-in-Some : goal.returns-in-Some
returns-in-Some c =
    let scope = context c.args.scope.now in
    let P : Option (List ℕ) → Option Sort → Type 0 = λ x t. IfOk c.known_behind.result (λ v. v.items ≡ known_behind scope x t c.args.names.now) in
    let part = part_at c.in-Some.ts.now c.args.i c.get.result c.get.ensures.lookup.0 c.get.ensures.lookup.1 ∙ sym (ap (λ o. next_part (parts_from c.args.i (option_map (map sort) (option_copied o)))) c.in-Some.is) in
    subst₂ P c.name_in.ensures part c.known_behind.ensures
