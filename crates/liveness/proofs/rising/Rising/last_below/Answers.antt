use Rattle.std.proofs.Common.{◌≡◌, ◌∙◌, ◌-◌, suc, sym, ap, arith}
use Rattle.std.specs.Prelude.{slice_get}
use Rattle.liveness.specs.Rising.{last_below}
use Rattle.liveness.proofs.RisingLemmas.{before_some, last_split, none_below}
use Rattle.liveness.proofs.rising.Rising.last_below.Goals as goal

pub returns-then-place-eq0 : goal.returns-then-place-eq0
returns-then-place-eq0 c =
    let none = none_below c.as_slice.result.now c.args.bound (λ i lt. c.count_below-place.ensures.behind i (omega (arith, c.if-place-eq0.true)) lt) in
    sym none ∙ ap (λ z. last_below z c.args.bound) (c.as_slice.ensures ∙ c.self.view_is)

pub returns : goal.returns
returns c =
    let p = c.count_below-place.result - 1 in
    let some : suc p ≡ c.count_below-place.result = before_some c.count_below-place.result c.if-place-eq0.false in
    let split = last_split c.as_slice.result.now c.args.bound p (omega (arith, some, c.count_below-place.ensures.within)) (λ i lt. c.count_below-place.ensures.below i (omega (arith, lt, some))) (λ i ge lt. c.count_below-place.ensures.behind i (omega (arith, ge, some)) lt) in
    c.copied.ensures ∙ c.get.ensures.value ∙ ap (λ z. slice_get z p) (sym c.as_slice.ensures) ∙ split ∙ ap (λ z. last_below z c.args.bound) (c.as_slice.ensures ∙ c.self.view_is)
