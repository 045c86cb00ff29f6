use Rattle.std.proofs.Common.{◌≡◌, ◌∙◌, sym, ap}
use Rattle.std.specs.Prelude.{slice_get}
use Rattle.liveness.specs.Rising.{next_from}
use Rattle.liveness.proofs.RisingLemmas.{next_split}
use Rattle.liveness.proofs.rising.Rising.next_from.Goals as goal

pub returns : goal.returns
returns c =
    let split = next_split c.as_slice.result.now c.args.bound c.count_below-place.result c.count_below-place.ensures.within c.count_below-place.ensures.below c.count_below-place.ensures.behind in
    let is : c.as_slice.result.now ≡ c.args.self.now = c.as_slice.ensures ∙ c.self.view_is in
    c.copied.ensures ∙ c.get.ensures.value ∙ ap (λ z. slice_get z c.count_below-place.result) (sym c.as_slice.ensures) ∙ split ∙ ap (λ z. next_from z c.args.bound) is
