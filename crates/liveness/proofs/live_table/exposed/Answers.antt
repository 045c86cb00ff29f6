use Rattle.std.proofs.Common.{◌≡◌, ◌∙◌, ◌<◌, ◌+◌, ◌∷◌, ◌++◌, [], suc, true, false, length, sym, ap, subst, arith, take, get_or}
use Rattle.std.proofs.lemmas.Option.{slice_get-get_or}
use Rattle.liveness.specs.Places.{reads_first}
use Rattle.liveness.specs.Rising.{with_mark, has}
use Rattle.liveness.proofs.InverseLemmas.{take_next}
use Rattle.liveness.proofs.FloodLemmas.{is_lacking, not_lacking, mark_same}
use Rattle.liveness.proofs.ExposedLemmas.{Exposing, exposed_past, exposed_marks}
use Rattle.liveness.proofs.live_table.exposed.Goals as goal
use Rattle.liveness.proofs.live_table.exposed.Goals.{then-reads_first+in_ok-mark+then-branch+in_ok-extend_from_slice, else-reads_first, else-reads_first-via-then-reads_first+in_ok-mark+else-branch, else-reads_first-via-else-reads_first}

pub loop-b-preserved : goal.loop-b-preserved
loop-b-preserved c =
    let reads = reads_first c.args.touches.now c.args.r in
    let edges = c.args.edges.now in
    let old = c.args.rows.now in
    let seen = take c.loop-b.b-index c.args.readers.now in
    let b = get_or c.args.readers.now c.loop-b.b-index 0 in
    let next : suc c.loop-b.b-index ≡ c.loop-b.b-index + 1 = omega arith in
    let more : seen ++ b ∷ [] ≡ take (c.loop-b.b-index + 1) c.args.readers.now =
    sym (take_next c.args.readers.now c.loop-b.b-index b (slice_get-get_or c.args.readers.now c.loop-b.b-index 0 c.loop-b-test.true)) ∙ ap (λ z. take z c.args.readers.now) next in
    elim c.if-reads_first.branch [
      | then-reads_first+in_ok-mark+then-branch+in_ok-extend_from_slice w ↦
          let lacking = is_lacking c.loop-b.rows c.args.r b (sym w.in_ok-mark.ensures.is_new ∙ w.if-branch.true) in
          let marked = exposed_marks reads edges old c.args.r seen c.loop-b.work.items c.loop-b.rows b c.loop-b.invariant (sym c.reads_first.ensures ∙ w.if-reads_first.true) lacking.0 in
          let rows : c.if-reads_first.rows ≡ with_mark c.loop-b.rows c.args.r b = w.rows-is ∙ w.in_ok-mark.ensures.marks in
          let work : c.if-reads_first.work.items ≡ c.loop-b.work.items ++ get_or edges b [] =
          ap (λ z. z.items) w.work-is ∙ w.in_ok-extend_from_slice.ensures.items ∙ ap (λ z. c.loop-b.work.items ++ z) w.numbers_of.ensures in
          subst (λ z. Exposing reads edges old c.args.r z c.if-reads_first.rows c.if-reads_first.work.items) more
          (subst (λ z. Exposing reads edges old c.args.r (seen ++ b ∷ []) z c.if-reads_first.work.items) (sym rows)
          (subst (Exposing reads edges old c.args.r (seen ++ b ∷ []) (with_mark c.loop-b.rows c.args.r b)) (sym work) marked))
      | else-reads_first w ↦
          let past = exposed_past reads edges old c.args.r seen c.loop-b.work.items c.loop-b.rows b c.loop-b.invariant in
          let same : (c.if-reads_first.rows ≡ c.loop-b.rows) × (reads b ≡ true → b < length c.loop-b.rows → has c.loop-b.rows c.args.r b ≡ true) = elim w.else-reads_first.branch [
            | else-reads_first-via-then-reads_first+in_ok-mark+else-branch v ↦
                let known = sym v.in_ok-mark.ensures.is_new ∙ v.if-branch.false in
                (w.rows-is ∙ v.rows-is ∙ v.in_ok-mark.ensures.marks ∙ mark_same c.loop-b.rows c.args.r b known, λ reads_b lt. not_lacking c.loop-b.rows c.args.r b known lt)
            | else-reads_first-via-else-reads_first v ↦
                (w.rows-is ∙ v.rows-is, λ reads_b lt. let clash : true ≡ false = sym reads_b ∙ sym c.reads_first.ensures ∙ v.if-reads_first.false in absurd (cc))
          ] in
          subst (λ z. Exposing reads edges old c.args.r z c.if-reads_first.rows c.if-reads_first.work.items) more
          (subst (λ z. Exposing reads edges old c.args.r (seen ++ b ∷ []) z c.if-reads_first.work.items) (sym same.0)
          (subst (Exposing reads edges old c.args.r (seen ++ b ∷ []) c.loop-b.rows) (sym (ap (λ z. z.items) w.work-is)) (past same.1)))
    ]
