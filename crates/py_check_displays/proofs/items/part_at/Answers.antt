use Rattle.std.proofs.Common.{◌≡◌, ℕ, Option, Some, IfOk, map, ap, sym, ◌∙◌, subst}
use Rattle.std.specs.Option.{option_map}
use Rattle.py_typed.specs.declared.types.Ty.{Ty}
use Rattle.py_typed.specs.Sorts.{Sort, sort}
use Rattle.py_check_displays.specs.Literals.{literal_seen}
use Rattle.py_check_displays.specs.Indexing.{part_at, parts_of}
use Rattle.py_check_displays.proofs.PlaceLemmas.{sort-Tuple, listed}
use Rattle.py_check_displays.proofs.items.part_at.Goals as goal

pub returns-in-Tuple : goal.returns-in-Tuple
returns-in-Tuple c =
    let l = Some (literal_seen c.in-Some.index) in
    let same : part_at l (map sort c.as_slice.result.now) ≡ part_at (option_map literal_seen c.args.index) (parts_of (sort c.args.t.now)) =
    ap (λ ts. part_at l (map sort ts)) c.as_slice.ensures
    ∙ ap (part_at l) (sym (listed (map sort c.in-Tuple.ts)))
    ∙ ap (λ s. part_at l (parts_of s)) (sym (ap sort c.in-Tuple.is ∙ sort-Tuple c.in-Tuple.ts))
    ∙ ap (λ o. part_at (option_map literal_seen o) (parts_of (sort c.args.t.now))) (sym c.in-Some.is) in
    let P : Option (ℕ × Sort) → Type 0 = λ o. IfOk c.part_among.result (λ r. option_map (λ (p : ℕ × Ty). (p.0, sort p.1)) r ≡ o) in
    subst P same c.part_among.ensures
