use Rattle.std.proofs.Common.{◌≡◌, ◌∙◌, sym, ap, subst}
use Rattle.std.specs.Prelude.{slice_get}
use Rattle.std.proofs.lemmas.Option.{get_or_from_slice_get, slice_get_within}
use Rattle.liveness.specs.Paths.{is_among}
use Rattle.liveness.specs.Rising.{IsRising}
use Rattle.liveness.proofs.RisingLemmas.{found_there, not_there, past_end}
use Rattle.liveness.proofs.rising.Rising.contains.Goals as goal

pub returns-in-Some : goal.returns-in-Some
returns-in-Some c =
    let xs = c.as_slice.result.now in
    let is : xs ≡ c.args.self.now = c.as_slice.ensures ∙ c.self.view_is in
    let at = ap (λ z. slice_get z c.count_below-place.result) c.as_slice.ensures ∙ sym c.in-Some.ensures.value in
    let lt = slice_get_within xs c.count_below-place.result c.in-Some.found.now at in
    found_there xs c.args.number c.count_below-place.result c.in-Some.found.now (subst IsRising (sym c.as_slice.ensures) c.self.invariant) c.count_below-place.ensures.below c.count_below-place.ensures.behind lt (get_or_from_slice_get xs c.count_below-place.result c.in-Some.found.now 0 at) ∙ ap (λ z. is_among z c.args.number) is

pub returns-in-None : goal.returns-in-None
returns-in-None c =
    let xs = c.as_slice.result.now in
    let is : xs ≡ c.args.self.now = c.as_slice.ensures ∙ c.self.view_is in
    let at = ap (λ z. slice_get z c.count_below-place.result) c.as_slice.ensures ∙ sym c.in-None.ensures.value in
    not_there xs c.args.number c.count_below-place.result c.count_below-place.ensures.below (past_end xs c.count_below-place.result at) ∙ ap (λ z. is_among z c.args.number) is
