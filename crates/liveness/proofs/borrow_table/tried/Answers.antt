use Rattle.std.proofs.Common.{◌≡◌, ◌∙◌, ◌+◌, ◌∷◌, ◌++◌, [], suc, sym, ap, subst, arith, get_or, take}
use Rattle.std.proofs.lemmas.Option.{slice_get-get_or}
use Rattle.liveness.specs.Spread.{AreTried}
use Rattle.liveness.proofs.InverseLemmas.{take_next}
use Rattle.liveness.proofs.SpreadLemmas.{tried_more, tried_past}
use Rattle.liveness.proofs.borrow_table.tried.Goals as goal
use Rattle.liveness.proofs.borrow_table.tried.Goals.{then-gives+in_ok-extend_from_slice, else-gives}

pub loop-b-preserved : goal.loop-b-preserved
loop-b-preserved c =
    let known = c.args.known.now in
    let edges = c.args.edges.now in
    let r = c.args.r in
    let seen = take c.loop-b.b-index c.args.writers.now in
    let b = get_or c.args.writers.now c.loop-b.b-index 0 in
    let next : suc c.loop-b.b-index ≡ c.loop-b.b-index + 1 = omega arith in
    let more : seen ++ b ∷ [] ≡ take (c.loop-b.b-index + 1) c.args.writers.now =
    sym (take_next c.args.writers.now c.loop-b.b-index b (slice_get-get_or c.args.writers.now c.loop-b.b-index 0 c.loop-b-test.true)) ∙ ap (λ z. take z c.args.writers.now) next in
    elim c.if-gives.branch [
      | then-gives+in_ok-extend_from_slice w ↦
          let work : c.if-gives.work.items ≡ c.loop-b.work.items ++ get_or edges b [] =
          ap (λ z. z.items) w.work-is ∙ w.in_ok-extend_from_slice.ensures.items ∙ ap (λ z. c.loop-b.work.items ++ z) w.numbers_of.ensures in
          subst (λ z. AreTried known edges r z c.if-gives.work.items) more (subst (AreTried known edges r (seen ++ b ∷ [])) (sym work) (tried_more known edges r seen b c.loop-b.work.items c.loop-b.invariant (sym c.gives.ensures ∙ w.if-gives.true)))
      | else-gives w ↦
          subst (λ z. AreTried known edges r z c.if-gives.work.items) more (subst (AreTried known edges r (seen ++ b ∷ [])) (sym (ap (λ z. z.items) w.work-is)) (tried_past known edges r seen b c.loop-b.work.items c.loop-b.invariant (sym c.gives.ensures ∙ w.if-gives.false)))
    ]
